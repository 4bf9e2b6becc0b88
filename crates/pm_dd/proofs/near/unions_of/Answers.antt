use Rattle.pm_vector.specs.Rows.{entry}
use Rattle.pm_bits.specs.Sets.{IsSubset, has}
use Rattle.pm_dd.proofs.near.unions_of.Goals as goal
use Rattle.pm_dd.proofs.near.unions_of.Goals.{then-values-k-gt0, else-values-k-gt0+then-values-k-lt0, else-values-k-gt0+else-values-k-lt0}
use Rattle.pm_dd.specs.Tables.{zero_set}
use Rattle.std.proofs.Common.{arith, inl, inr, pos, subst, ◌<ℤ◌, ◌<◌, ◌≡◌, ◌+◌, ◌∙◌, ℕ, List, Bool, IsTrue}
use Rattle.std.proofs.lemmas.Bool.{cases_lt}
use Rattle.std.proofs.lemmas.Int.{ints}

-- a union that grows, with one row more where P asks for it
covers_more : (P : ℕ → Type 0) (Z : List (List Bool)) (k : ℕ) (u u' : List Bool) → ((m : ℕ) → m < k → P m → IsSubset (zero_set Z m) u) → IsSubset u u' → (P k → IsSubset (zero_set Z k) u') → (m : ℕ) → m < k + 1 → P m → IsSubset (zero_set Z m) u'
covers_more P Z k u u' old grows last m l p i member = elim (cases_lt m k) [
  | inl before ↦ grows i (old m before p i member)
  | inr from ↦ (let e : m ≡ k = omega arith in last (subst P e p) i (subst (λ (j : ℕ). IsTrue (has (zero_set Z j) i)) e member))
]

pub loop-k-preserved : goal.loop-k-preserved
loop-k-preserved c =
    let Z = c.args.zeros.now.rows in
    let k = c.loop-k.k in
    let inv = c.loop-k.invariant in
    let Ahead : ℕ → Type 0 = λ m. pos 0 <ℤ entry c.args.values.now m in
    let Behind : ℕ → Type 0 = λ m. entry c.args.values.now m <ℤ pos 0 in
    elim c.if-values-k-gt0.branch [
      | then-values-k-gt0 w ↦ (
          let t = w.if-values-k-gt0.true in
          rw (w.ahead-is, w.behind-is, w.spare-is) record {
            ahead_len = w.add_members.ensures.len ∙ inv.ahead_len;
            behind_len = inv.behind_len;
            spare_len = w.add_members.ensures.spare_len ∙ inv.ahead_len;
            ahead = covers_more Ahead Z k c.loop-k.ahead _ inv.ahead w.add_members.ensures.rest (λ up. rw w.row.ensures.value at w.add_members.ensures.row);
            behind = covers_more Behind Z k c.loop-k.behind c.loop-k.behind inv.behind (λ i m. m) (λ down. absurd (omega (arith, ints)));
          })
      | else-values-k-gt0+then-values-k-lt0 w ↦ (
          let f = w.if-values-k-gt0.false in
          rw (w.ahead-is, w.behind-is, w.spare-is) record {
            ahead_len = inv.ahead_len;
            behind_len = w.add_members-then-values-k-lt0.ensures.len ∙ inv.behind_len;
            spare_len = w.add_members-then-values-k-lt0.ensures.spare_len ∙ inv.behind_len;
            ahead = covers_more Ahead Z k c.loop-k.ahead c.loop-k.ahead inv.ahead (λ i m. m) (λ up. absurd (omega (arith, ints)));
            behind = covers_more Behind Z k c.loop-k.behind _ inv.behind w.add_members-then-values-k-lt0.ensures.rest (λ down. rw w.row-then-values-k-lt0.ensures.value at w.add_members-then-values-k-lt0.ensures.row);
          })
      | else-values-k-gt0+else-values-k-lt0 w ↦ (
          let f = w.if-values-k-gt0.false in
          let g = w.if-values-k-lt0.false in
          rw (w.ahead-is, w.behind-is, w.spare-is) record {
            ahead_len = inv.ahead_len;
            behind_len = inv.behind_len;
            spare_len = inv.spare_len;
            ahead = covers_more Ahead Z k c.loop-k.ahead c.loop-k.ahead inv.ahead (λ i m. m) (λ up. absurd (omega (arith, ints)));
            behind = covers_more Behind Z k c.loop-k.behind c.loop-k.behind inv.behind (λ i m. m) (λ down. absurd (omega (arith, ints)));
          })
    ]
