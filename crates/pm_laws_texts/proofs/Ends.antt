-- Each walk goes on to the end of a rule: its words are the first of some rules.
use Rattle.std.proofs.Common.{◌≡◌, ◌∙◌, ◌++◌, ℕ, Some, false, true, List, [], ◌∷◌, ap, append-nil, codes, refl, sym}
use Rattle.std.specs.List.{flat_map}
use Rattle.std.proofs.lemmas.List.Elements.{All-push}
use Rattle.std.proofs.lemmas.List.Concat.{flat_map-append}
use Rattle.pm_books.specs.Grammar.{Written, words_of}
use Rattle.pm_laws_texts.specs.BookFaults.{AreRules, Begin, HasForm}
use Rattle.pm_laws_texts.proofs.Had.{Had, walked}
use Rattle.pm_laws_texts.proofs.Walks.{Due, State, Walks, at, joined, labelled, one_more, start, step, stepped, with_client, with_conditions, with_sources, with_targets, with_weight}
use Rattle.pm_laws_texts.proofs.Walks.Due.{behind, client, closing, colon, condition, conditions_on, ending, label, negated, opening, ruled, source, sources_on, target, targets_on, weighing, weight}

-- the words that lead to the end of a rule
record Ends (s : State) : Type 0 where
  had : List Written
  now : Written
  more : List (List ℕ)
  walks : Walks s more (at behind had now)

via : (s t : State) (word : List ℕ) → step s word ≡ Some t → Ends t → Ends s
via s t word e ends = record { had = ends.had; now = ends.now; more = word ∷ ends.more; walks = stepped s t (at behind ends.had ends.now) word ends.more e ends.walks }

module _ (had : List Written) where
  behind_ends : (now : Written) → Ends (at behind had now)
  behind_ends now = record { had = had; now = now; more = []; walks = refl }

  ending_ends : (now : Written) → Ends (at ending had now)
  ending_ends now = via (at ending had now) (at behind had (with_conditions now [])) (codes ";") refl (behind_ends (with_conditions now []))

  weight_ends : (now : Written) → Ends (at weight had now)
  weight_ends now = via (at weight had now) (at ending had (with_weight now (codes "1"))) (codes "1") refl (ending_ends (with_weight now (codes "1")))

  weighing_ends : (now : Written) → Ends (at weighing had now)
  weighing_ends now = via (at weighing had now) (at weight had now) (codes "weight") refl (weight_ends now)

  closing_ends : (now : Written) → Ends (at closing had now)
  closing_ends now = via (at closing had now) (at weighing had now) (codes "}") refl (weighing_ends now)

  client_ends : (now : Written) → Ends (at client had now)
  client_ends now = via (at client had now) (at closing had (with_client now (codes "a"))) (codes "a") refl (closing_ends (with_client now (codes "a")))

  sources_end : (now : Written) → Ends (at sources_on had now)
  sources_end now = via (at sources_on had now) (at client had now) (codes "{") refl (client_ends now)

  source_ends : (now : Written) → Ends (at source had now)
  source_ends now =
      let next : Written = with_sources now (now.sources ++ codes "a" ∷ []) in
      via (at source had now) (at sources_on had next) (codes "a") refl (sources_end next)

  targets_end : (now : Written) → Ends (at targets_on had now)
  targets_end now = via (at targets_on had now) (at source had (with_sources now [])) (codes ":") refl (source_ends (with_sources now []))

  target_ends : (now : Written) → Ends (at target had now)
  target_ends now =
      let next : Written = with_targets now (now.targets ++ codes "a" ∷ []) in
      via (at target had now) (at targets_on had next) (codes "a") refl (targets_end next)

  ruled_ends : (now : Written) → Ends (at ruled had now)
  ruled_ends now = via (at ruled had now) (at target had (with_targets now [])) (codes "rule") refl (target_ends (with_targets now []))

  colon_ends : (now : Written) → Ends (at colon had now)
  colon_ends now = via (at colon had now) (at ruled had now) (codes ":") refl (ruled_ends now)

  conditions_end : (now : Written) → Ends (at conditions_on had now)
  conditions_end now = via (at conditions_on had now) (at behind had now) (codes ";") refl (behind_ends now)

  condition_ends : (now : Written) → Ends (at condition had now)
  condition_ends now = via (at condition had now) (at conditions_on had (one_more now false (codes "a"))) (codes "a") refl (conditions_end (one_more now false (codes "a")))

  ends_at : (due : Due) (now : Written) → Ends (at due had now)
  ends_at label now = via (at label had now) (at colon had (labelled (codes "a"))) (codes "a") refl (colon_ends (labelled (codes "a")))
  ends_at colon now = colon_ends now
  ends_at ruled now = ruled_ends now
  ends_at target now = target_ends now
  ends_at targets_on now = targets_end now
  ends_at source now = source_ends now
  ends_at sources_on now = sources_end now
  ends_at client now = client_ends now
  ends_at closing now = closing_ends now
  ends_at weighing now = weighing_ends now
  ends_at weight now = weight_ends now
  ends_at ending now = ending_ends now
  ends_at behind now = behind_ends now
  ends_at opening now = via (at opening had now) (at condition had (with_conditions now [])) (codes ":") refl (condition_ends (with_conditions now []))
  ends_at condition now = condition_ends now
  ends_at negated now = via (at negated had now) (at conditions_on had (one_more now true (codes "a"))) (codes "a") refl (conditions_end (one_more now true (codes "a")))
  ends_at conditions_on now = conditions_end now

-- behind a whole rule the words are those of rules
pub rules_behind : (had : List Written) (now : Written) (words : List (List ℕ)) → Had (at behind had now) words → AreRules (had ++ now ∷ []) words
rules_behind had now words h = record {
  form = All-push HasForm had now h.form h.now;
  words = h.words ∙ ap (λ (l : List (List ℕ)). flat_map words_of had ++ l) (sym (append-nil (words_of now))) ∙ sym (flat_map-append words_of had (now ∷ []));
}

pub walk_begins : (s : State) (words : List (List ℕ)) → Walks start words s → Begin words
walk_begins s words w =
    let ends = ends_at s.had s.due s.now in
    let u : State = at behind ends.had ends.now in
    (ends.had ++ ends.now ∷ [], ends.more, rules_behind ends.had ends.now (words ++ ends.more) (walked u (words ++ ends.more) (joined start s u words ends.more w ends.walks)))
