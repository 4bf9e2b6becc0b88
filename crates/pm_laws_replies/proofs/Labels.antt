-- Names that have no LF.
use Rattle.std.proofs.Common.{refl, subst, sym, ℕ, List, [], ◌∷◌, true, ◌≡◌}
use Rattle.std.specs.List.{All, AllZip}
use Rattle.pm_books.specs.Grammar.{Means, Written}
use Rattle.pm_props.specs.declared.kind.Kind.{Kind}
use Rattle.std.proofs.lemmas.List.Elements.{All-head, All-tail}
use Rattle.std.proofs.lemmas.Bool.{and_parts, and_from}
use Rattle.pm_rules.specs.Books.{IsRule}
use Rattle.pm_rules.specs.Words.{is_label, is_word}
use Rattle.pm_rules.specs.declared.rule.Rule.{Rule}
use Rattle.pm_laws_replies.specs.Scripts.{BookTextLabelsAreOneLine, BookLabelsAreOneLine, labels_are_one_line}
use Rattle.pm_laws_replies.specs.Told.{is_one_line}
use Rattle.pm_laws_replies.proofs.Words.{plain_word}

plain_label : (label : List ℕ) → is_label label ≡ true → is_one_line label ≡ true
plain_label label h = plain_word label (and_parts (is_word label) _ h).0

each_label : (book : List Rule) → All IsRule book → labels_are_one_line book ≡ true
each_label [] h = refl
each_label (rule ∷ book) h = and_from (is_one_line rule.label) (labels_are_one_line book) (plain_label rule.label (All-head IsRule rule book h).label) (each_label book (All-tail IsRule rule book h))

pub book_labels : BookLabelsAreOneLine
book_labels book h = each_label book h.each

meant_labels : (kinds : List Kind) (ws : List Written) (rules : List Rule) → AllZip (Means kinds) ws rules → labels_are_one_line rules ≡ true
meant_labels kinds [] [] z = refl
meant_labels kinds [] (rule ∷ rules) z = absurd z
meant_labels kinds (w ∷ ws) [] z = absurd z
meant_labels kinds (w ∷ ws) (rule ∷ rules) (m, z) =
    and_from (is_one_line rule.label) (labels_are_one_line rules) (subst (λ l. is_one_line l ≡ true) (sym m.labelled) (plain_label w.label m.label)) (meant_labels kinds ws rules z)

pub text_labels : BookTextLabelsAreOneLine
text_labels kinds text book h = meant_labels kinds h.written book h.means
