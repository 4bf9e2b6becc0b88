-- The file of the object is whole, so its bytes are read as it.
use Rattle.serde_json.specs.Read.{read}
use Rattle.pm_files.specs.Views.{file_of}
use Rattle.std.proofs.Common.{IfOk, IsUtf8, Some, ap, refl, subst, sym, ◌∙◌, ◌≡◌}
use Rattle.pm_files.specs.Files.{SavedFile, file_bytes, file_json}
use Rattle.pm_filing.proofs.DataRead.{data-read}
use Rattle.pm_json.proofs.Parts.{both_ok}
use Rattle.pm_filing.proofs.Returned.{loaded_again}
use Rattle.pm_filing.proofs.Returning.{returned}
use Rattle.pm_filing.proofs.Saved.{saved_whole}
use Rattle.pm_filing.specs.FileParts.{not_json, or_else_fault}
use Rattle.pm_filing.specs.Filing.{saved_file}
use Rattle.pm_rules.specs.Books.{IsBook}
use Rattle.pm_saving.proofs.save.save_object.Goals as goal

pub returns-clause-again : goal.returns-clause-again
returns-clause-again c =
    let o = c.args.object.now.state in
    let book = c.args.book.now in
    let is_book : IsBook book = subst IsBook c.rules-rules.ensures.value c.rules-rules.ensures.book in
    let is = c.in_ok-file.ensures in
    let told : IfOk c.object_bytes.result (λ bytes. IsUtf8 bytes.items × (read bytes.items ≡ Some (file_json (file_of c.in_ok-file.file)))) =
    both_ok c.object_bytes.result (λ bytes text back. (text, back)) c.object_bytes.ensures.utf8 c.object_bytes.ensures.reads_back in
    both_ok c.object_bytes.result (λ bytes whole text short.
    let found = data-read bytes.items bytes.items short text.0 refl ∙ ap (or_else_fault not_json) (text.1 ∙ ap (λ (f : SavedFile). Some (file_json f)) is) in
    let (g, reads, same) = returned bytes.items (saved_file book o) (saved_whole book o is_book c.held-held.ensures.formed) found in
    (g, reads, loaded_again book o g is_book c.held-held.ensures.formed same, same.again ∙ sym (whole ∙ ap file_bytes is))) c.object_bytes.ensures.bytes told
