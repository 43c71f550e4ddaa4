use Rattle.std.proofs.Common.{◌≡◌, subst, true}
use Rattle.pn_text.specs.Name.{is_name}
use Rattle.pn_published.proofs.NameFolders.{tags_entry, folder_short}
use Rattle.pn_text.proofs.Results.{any_ok}
use Rattle.pn_published.proofs.top.name_folder.Goals as goal

pub join-requires : goal.join-requires
join-requires c = folder_short c.args.name.now c.in_ok-tail.tail c.in_ok-root.root (subst (λ n. is_name n ≡ true) c.as_str-text.ensures.text c.as_str-text.ensures.name) c.in_ok-tail.ensures c.in_ok-root.ensures

pub returns-clause-tags : goal.returns-clause-tags
returns-clause-tags c = any_ok c.join.result (tags_entry c.args.name.now (subst (λ n. is_name n ≡ true) c.as_str-text.ensures.text c.as_str-text.ensures.name))
