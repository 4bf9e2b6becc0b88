-- A chain is read from its end.
use Rattle.std.proofs.Common.{◌≡◌, ◌<◌, ℕ, suc, Option, Some, None, List, [], ◌∷◌, ◌++◌, length, refl, sym, ap, ◌∙◌, subst, arith, append_assoc, IfSome, reverse}
use Rattle.std.specs.Prelude.{slice_index_or}
use Rattle.std.specs.Option.{option_map_or}
use Rattle.std.proofs.lemmas.List.{reverse-append}
use Rattle.std.proofs.lemmas.Option.{slice_get-get_or}
use Rattle.pm_props.specs.declared.kind.RuleId.{RuleId}
use Rattle.pm_plan.specs.declared.track.Link.{Link}
use Rattle.pm_plan.specs.Tracks.{GoesBack, IsTrack}
use Rattle.pm_plan.specs.Tracks.IsTrack.{begun, onward}
use Rattle.pm_plan.proofs.Options.{if_some_from}

lower : (o : Option Link) (n : ℕ) → ((next : Link) → o ≡ Some next → next.from < n) → option_map_or (λ next. suc next.from) o 0 < suc n
lower None n h = omega arith
lower (Some next) n h = let low = h next refl in omega arith

module _ (links : List (Option Link)) (last : Option Link) where
  append-none : {X : Type 0} (xs : List X) → xs ++ [] ≡ xs
  append-none [] = refl
  append-none (x ∷ xs) = ap (λ ys. x ∷ ys) (append-none xs)

  pub read_none : (chain : List RuleId) → chain ≡ [] → (front : List RuleId) → IsTrack links last front → IsTrack links last (front ++ reverse chain)
  read_none chain e front h = subst (IsTrack links last) (sym (ap (λ (c : List RuleId). front ++ reverse c) e ∙ append-none front)) h

  pub next_within : GoesBack links last → (link : Link) → link.from < length links → IfSome (slice_index_or links link.from None) (λ next. next.from < length links)
  next_within h link within = if_some_from (slice_index_or links link.from None) (λ next. next.from < length links) (λ next e.
      let low = h.each link.from next (slice_get-get_or links link.from None within ∙ ap (λ (o : Option Link). Some o) e) in
      omega arith)

  pub next_lower : GoesBack links last → (link : Link) → link.from < length links → option_map_or (λ next. suc next.from) (slice_index_or links link.from None) 0 < suc link.from
  next_lower h link within = lower (slice_index_or links link.from None) link.from (λ next e. h.each link.from next (slice_get-get_or links link.from None within ∙ ap (λ (o : Option Link). Some o) e))

  pub read_more : (next : Option Link) (link : Link) (chain longer : List RuleId) → next ≡ Some link → link.from < length links → longer ≡ chain ++ link.id ∷ []
      → ((front : List RuleId) → IsTrack links next front → IsTrack links last (front ++ reverse chain))
      → (front : List RuleId) → IsTrack links (slice_index_or links link.from None) front → IsTrack links last (front ++ reverse longer)
  read_more next link chain longer e within f h front track =
      let whole : IsTrack links last ((front ++ link.id ∷ []) ++ reverse chain) =
      h (front ++ link.id ∷ []) (subst (λ (o : Option Link). IsTrack links o (front ++ link.id ∷ [])) (sym e) (onward link (slice_index_or links link.from None) (slice_get-get_or links link.from None within) track)) in
      subst (IsTrack links last) (append_assoc front (link.id ∷ []) (reverse chain) ∙ sym (ap (λ (c : List RuleId). front ++ reverse c) f ∙ ap (λ (c : List RuleId). front ++ c) (reverse-append chain (link.id ∷ [])))) whole

  pub read_all : (next : Option Link) (chain : List RuleId) → next ≡ None → ((front : List RuleId) → IsTrack links next front → IsTrack links last (front ++ reverse chain)) → IsTrack links last (reverse chain)
  read_all next chain e h = h [] (subst (λ (o : Option Link). IsTrack links o []) (sym e) begun)
