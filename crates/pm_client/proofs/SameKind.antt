-- Kinds are the same exactly where their names and sets are.
use Rattle.pm_client.specs.Starts.{same_kind}
use Rattle.pm_props.specs.declared.kind.Kind.{Kind}
use Rattle.std.proofs.Common.{ap, eqb, false, refl, sym, true, true≢false, ◌&&◌, ◌≡◌, ◌≢◌, ◌∙◌}
use Rattle.std.proofs.lemmas.Bool.{and_parts, eq-eqb, eqb-true}
use Rattle.std.proofs.lemmas.Slice.Eq.{bytes_eq-Decides}
use Rattle.std.specs.Prelude.{Bool}
use Rattle.std.specs.Str.{bytes_eq}

same_fields : (a b : Kind) → a.name ≡ b.name → a.targets ≡ b.targets → a.sources ≡ b.sources → a.must ≡ b.must → a.must_not ≡ b.must_not → a ≡ b
same_fields a b n t s m f =
    ap (λ x. record a { name = x }) n ∙ ap (λ x. record a { name = b.name; targets = x }) t ∙ ap (λ x. record b { sources = x; must = a.must; must_not = a.must_not }) s
    ∙ ap (λ x. record b { must = x; must_not = a.must_not }) m ∙ ap (λ x. record b { must_not = x }) f

pub same_kind_is : (a b : Kind) → same_kind a b ≡ true → a ≡ b
same_kind_is a b h =
    let p = and_parts (bytes_eq a.name b.name) (eqb a.targets b.targets && (eqb a.sources b.sources && (eqb a.must b.must && eqb a.must_not b.must_not))) h in
    let q = and_parts (eqb a.targets b.targets) (eqb a.sources b.sources && (eqb a.must b.must && eqb a.must_not b.must_not)) p.1 in
    let r = and_parts (eqb a.sources b.sources) (eqb a.must b.must && eqb a.must_not b.must_not) q.1 in
    let s = and_parts (eqb a.must b.must) (eqb a.must_not b.must_not) r.1 in
    same_fields a b ((bytes_eq-Decides a.name b.name).0 p.0) (eqb-true a.targets b.targets q.0) (eqb-true a.sources b.sources r.0) (eqb-true a.must b.must s.0) (eqb-true a.must_not b.must_not s.1)

pub same_kind_refl : (k : Kind) → same_kind k k ≡ true
same_kind_refl k =
    rw ((bytes_eq-Decides k.name k.name).1 refl, eq-eqb k.targets k.targets refl, eq-eqb k.sources k.sources refl, eq-eqb k.must k.must refl, eq-eqb k.must_not k.must_not refl) refl

pub same_kind_apart : (a b : Kind) → a ≢ b → same_kind a b ≡ false
same_kind_apart a b n = by (same_kind a b) refl
  where
    by : (t : Bool) → same_kind a b ≡ t → same_kind a b ≡ false
    by true e = absurd (n (same_kind_is a b e))
    by false e = e

pub same_kind_differs : (a b : Kind) → same_kind a b ≡ false → a ≢ b
same_kind_differs a b h e = true≢false (sym (ap (λ k. same_kind a k) (sym e) ∙ same_kind_refl a) ∙ h)
