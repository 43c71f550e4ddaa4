-- Whose manifest it is.
use Rattle.pn_plain.specs.Seen.{Owner as Whose, a_project, a_package}
use Rattle.pn_seen.specs.declared.owner.Owner.{Owner}
use Rattle.pn_seen.specs.declared.owner.Owner.TheVariants.{Project, Package}

abbrev pub owner_of : Owner → Whose
owner_of Project = a_project
owner_of Package = a_package
