use Rattle.std.proofs.Common.{◌≡◌, take}
use Rattle.pn_digest.specs.Listing.{listing_text}
use Rattle.pn_digest.proofs.listing.print_files.Given as goal

abbrev pub invariant-loop-file : goal.invariant-loop-file
invariant-loop-file l = l.text.items ≡ listing_text (take l.file-index l.files)
