use Rattle.pn_asked.proofs.FindLemmas.{same_pairs}
use Rattle.pn_asked.proofs.projects.project_differs.Goals as goal

pub returns : goal.returns
returns c =
    simp (
      c.lesser.ensures,
      c.first_other-5.ensures,
      c.lesser-old_dev.ensures,
      c.first_other-4.ensures,
      c.lesser-old_optional.ensures,
      c.first_other-3.ensures,
      c.lesser-new.ensures,
      c.first_other-2.ensures,
      c.lesser-new_dev.ensures,
      c.first_other.ensures,
      c.first_optional-new_optional.ensures,
      c.as_slice-dependencies.ensures,
      c.as_slice-dev.ensures,
      c.as_slice-optional.ensures,
      c.as_slice-asked_dependencies.ensures,
      c.as_slice-asked_dev.ensures,
      c.as_slice-asked_optional.ensures,
      same_pairs,
    )
