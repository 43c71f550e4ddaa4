use Rattle.std.proofs.Common.{◌<◌, ◌++◌, ◌∷◌, [], ◌∙◌, ap, sym, arith, length, take}
use Rattle.pn_digest.specs.Listing.{line_text, listing_text}
use Rattle.pn_digest.proofs.PlaceLemmas.{front_more}
use Rattle.pn_digest.proofs.ListingTextLemmas.{text_push}
use Rattle.pn_digest.proofs.listing.print_files.Goals as goal

pub loop-file-preserved : goal.loop-file-preserved
loop-file-preserved c =
    let files = c.args.files.now in
    let i = c.loop-file.file-index in
    let x = c.file-item.result in
    let within : i < length files = omega (arith, c.loop-file-test.true) in
    c.in_ok-print_line.ensures
    ∙ ap (λ t. t ++ (line_text x ++ 10 ∷ [])) c.loop-file.invariant
    ∙ sym (text_push (take i files) x)
    ∙ ap listing_text (sym (front_more files i x within c.file-item.is))
