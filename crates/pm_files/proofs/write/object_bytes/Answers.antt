-- The file has no float, so its text is the compact one, which is read as the file, with an LF behind it as well.
use Rattle.pm_files.proofs.Scanned.{read-line}
use Rattle.pm_files.proofs.WholeFiles.{file_depth, file_whole}
use Rattle.pm_files.specs.Views.{file_of}
use Rattle.pm_files.proofs.write.object_bytes.Goals as goal
use Rattle.serde_json.specs.Data.{depth}
use Rattle.serde_json.specs.Read.{max_depth, read}
use Rattle.serde_json.specs.View.{view}
use Rattle.serde_json.specs.Written.{compact_text, has_float}
use Rattle.std.proofs.Common.{IsUtf8, ap, subst, sym, ◌++◌, ◌∙◌, ◌≡◌, ◌≤◌, ◌∷◌, [], List, Some, ℕ, arith, false, string_bytes}
use Rattle.std.proofs.lemmas.Str.{IsUtf8-string_bytes}

pub returns-clause-bytes : goal.returns-clause-bytes
returns-clause-bytes c =
    let whole : has_float (view c.in_ok-json.json) ≡ false = ap has_float c.in_ok-json.ensures ∙ file_whole (file_of c.args.o.now) in
    ap (λ v. v.items) c.into_bytes.ensures.value ∙ c.in_ok-push.ensures.bytes
    ∙ ap (λ (es : List ℕ). string_bytes c.in_ok-text.text ++ es) (c.in_ok-push.ensures.ascii (omega arith))
    ∙ ap (λ (bs : List ℕ). bs ++ 10 ∷ []) (c.in_ok-text.ensures.text whole ∙ ap compact_text c.in_ok-json.ensures)

pub returns-clause-utf8 : goal.returns-clause-utf8
returns-clause-utf8 c = subst IsUtf8 (sym (ap (λ v. v.items) c.into_bytes.ensures.value)) (IsUtf8-string_bytes c.push.new.self)

pub returns-clause-reads_back : goal.returns-clause-reads_back
returns-clause-reads_back c =
    let few = file_depth (file_of c.args.o.now) in
    let same = ap depth c.in_ok-json.ensures in
    let shallow : depth (view c.in_ok-json.json) ≤ max_depth = omega arith in
    let text = string_bytes c.in_ok-text.text in
    let ended = ap (λ v. v.items) c.into_bytes.ensures.value ∙ c.in_ok-push.ensures.bytes ∙ ap (λ (es : List ℕ). text ++ es) (c.in_ok-push.ensures.ascii (omega arith)) in
    ap read ended ∙ read-line text c.in_ok-text.ensures.order.0 c.in_ok-text.ensures.compact c.in_ok-text.ensures.order.1
    ∙ c.in_ok-text.ensures.reads_back shallow ∙ ap (λ d. Some d) c.in_ok-json.ensures
