-- A text that was printed, with a line feed behind it, is read as before.
use Rattle.std.proofs.Common.{refl, sym, ap, subst, ◌∙◌, ◌≡◌, ℕ, List, [], ◌∷◌, ◌++◌}
use Rattle.json.specs.Token.{Token}
use Rattle.json.specs.Lex.{tokens}
use Rattle.json.specs.Print.{print, ArePrintable, ArePrintableOrBad}
use Rattle.json.specs.Json.{Json, Items, Members, null, boolean, number, string, array, object, no_items, item, no_members, member}
use Rattle.json.specs.Tree.{json_tokens, items_tokens, members_tokens}
use Rattle.json.proofs.Numbered.{ArePrintableOrBad-tokens}
use Rattle.serde_json.specs.Read.{read}
use Rattle.pm_files.proofs.EndOfLine.{tokens-line}

good_append : (ts us : List Token) → ArePrintable ts → ArePrintable us → ArePrintable (ts ++ us)
unfolding ArePrintable
good_append [] us h k = k
good_append (t ∷ ts) us h k = (h.0, good_append ts us h.1 k)

or_bad_front : (ts us : List Token) → ArePrintableOrBad (ts ++ us) → ArePrintableOrBad ts
or_bad_front [] us h = tt
or_bad_front (t ∷ ts) us h = (h.0, or_bad_front ts us h.1)

or_bad_back : (ts us : List Token) → ArePrintableOrBad (ts ++ us) → ArePrintableOrBad us
or_bad_back [] us h = h
or_bad_back (t ∷ ts) us h = or_bad_back ts us h.1

-- the tokens of JSON have no bad one
mutual
  unfolding ArePrintable

  good : (j : Json) → ArePrintableOrBad (json_tokens j) → ArePrintable (json_tokens j)
  good null h = (tt, tt)
  good (boolean b) h = (tt, tt)
  good (number s) h = (h.0, tt)
  good (string s) h = (tt, tt)
  good (array js) h = (tt, good_items js h.1)
  good (object ms) h = (tt, good_members ms h.1)

  good_items : (js : Items) → ArePrintableOrBad (items_tokens js) → ArePrintable (items_tokens js)
  good_items no_items h = (tt, tt)
  good_items (item j js) h = good_append (json_tokens j) (items_tokens js) (good j (or_bad_front (json_tokens j) (items_tokens js) h)) (good_items js (or_bad_back (json_tokens j) (items_tokens js) h))

  good_members : (ms : Members) → ArePrintableOrBad (members_tokens ms) → ArePrintable (members_tokens ms)
  good_members no_members h = (tt, tt)
  good_members (member k j ms) h = (tt, good_append (json_tokens j) (members_tokens ms) (good j (or_bad_front (json_tokens j) (members_tokens ms) h.1)) (good_members ms (or_bad_back (json_tokens j) (members_tokens ms) h.1)))

pub read-line : (text : List ℕ) (j : Json) → text ≡ print (tokens text) → tokens text ≡ json_tokens j → read (text ++ 10 ∷ []) ≡ read text
read-line text j printed is =
    let fine : ArePrintable (tokens text) = subst ArePrintable (sym is) (good j (subst ArePrintableOrBad is (ArePrintableOrBad-tokens text))) in
    let line : tokens (text ++ 10 ∷ []) ≡ tokens text = ap (λ t. tokens (t ++ 10 ∷ [])) printed ∙ tokens-line (tokens text) fine ∙ ap tokens (sym printed) in
    rw line refl
