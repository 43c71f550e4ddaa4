-- The entry that a body is.
use Rattle.pn_fs.specs.Tree.{Entry, folder, file, link}
use Rattle.pn_fs.specs.declared.body.Body.{Body}
use Rattle.pn_fs.specs.declared.body.Body.TheVariants.{Folder, File, Link}

abbrev pub entry_of : Body → Entry
entry_of Folder = folder
entry_of (File bytes) = file bytes.items
entry_of (Link text) = link text
