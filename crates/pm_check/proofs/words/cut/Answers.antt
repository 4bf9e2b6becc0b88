use Rattle.std.proofs.Common.{◌≡◌, ◌∙◌, ◌+◌, ◌-◌, None, Some, ap, arith, drop, length, map, string_bytes, sym, take}
use Rattle.std.proofs.lemmas.List.{length-drop, take_all}
use Rattle.pm_check.proofs.Cuts.{cut_of_map}
use Rattle.pm_check.proofs.words.cut.Goals as goal

pub returns-in-Some : goal.returns-in-Some
returns-in-Some c =
    let words = c.args.words.now in
    let k = c.in-Some.place in
    let rest : take (length words - (k + 1)) (drop (k + 1) words) ≡ drop (k + 1) words = take_all (length words - (k + 1)) (drop (k + 1) words) (omega (arith, length-drop (k + 1) words)) in
    ap (λ z. Some (map string_bytes (take k words), map string_bytes z)) rest ∙ cut_of_map string_bytes c.args.mark.now words (Some k) (sym c.in-Some.is ∙ c.place_of.ensures.place)

pub returns-in-None : goal.returns-in-None
returns-in-None c = cut_of_map string_bytes c.args.mark.now c.args.words.now None (sym c.in-None.is ∙ c.place_of.ensures.place)
