-- The extreme rays with the lineality generate the cone: the generators are parted into lines and the others, and of the others those that the rest generates are dropped.
use Rattle.pm_vector.proofs.ConeLaws.{in_cone_set, in_divide, in_generator, in_line, in_line_opposite, in_of, in_plus, in_same, in_through, in_times, lines_opposite}
use Rattle.pm_vector.proofs.Lists.{AllPairs_cons, All_among, Among, Any_among, all_append, all_from, among_append, among_append_left, among_append_right, here, there}
use Rattle.pm_vector.proofs.RowLaws.{entry-opposite, entry-plus, entry-times, length-opposite}
use Rattle.pm_vector.proofs.Signs.{weaken}
use Rattle.pm_vector.specs.Cones.{InCone, IsConeSet}
use Rattle.pm_vector.specs.Rows.{HasCols, Row, opposite}
use Rattle.pm_geom.proofs.Extreme.{extreme, in_lines, like_generator}
use Rattle.pm_geom.proofs.Polar.{cols_at, membership_decided}
use Rattle.pm_geom.specs.Cones.{InLineality, IsExtreme, IsOrder, MultipleModulo, SameModulo}
use Rattle.pm_geom.specs.Laws.{ExtremesGenerate}
use Rattle.std.proofs.Common.{arith, inl, inr, ◌∙◌}
use Rattle.std.proofs.lemmas.Int.{ints}
use Rattle.std.specs.List.{AllPairs}
use Rattle.std.specs.Prelude.{List, [], length, ℕ, ◌++◌, ◌↔◌, ◌∷◌, ◌≡◌, ◌⊎◌}

-- ---- the notions depend on the rows of n entries alone
module _ (n : ℕ) (S S' : Row → Type 0) (to : (x : Row) → length x ≡ n → S x → S' x) (from : (x : Row) → length x ≡ n → S' x → S x) where
  multiple_modulo_as : {r u : Row} → MultipleModulo n S r u → MultipleModulo n S' r u
  multiple_modulo_as t = record {
    p = t.p;
    k = t.k;
    w = t.w;
    cols = t.cols;
    positive = t.positive;
    not_negative = t.not_negative;
    line = record { inside = to t.w t.cols t.line.inside; opposed = to (opposite t.w) (length-opposite t.w ∙ t.cols) t.line.opposed };
    same = t.same;
  }

  pub same_modulo_as : {r u : Row} → SameModulo n S r u → SameModulo n S' r u
  same_modulo_as t = record {
    p = t.p;
    k = t.k;
    w = t.w;
    cols = t.cols;
    p_positive = t.p_positive;
    k_positive = t.k_positive;
    line = record { inside = to t.w t.cols t.line.inside; opposed = to (opposite t.w) (length-opposite t.w ∙ t.cols) t.line.opposed };
    same = t.same;
  }

  pub extreme_as : {r : Row} → IsExtreme n S r → IsExtreme n S' r
  extreme_as {r} e = record {
    cols = e.cols;
    inside = to r e.cols e.inside;
    not_line = λ h. e.not_line (from (opposite r) (length-opposite r ∙ e.cols) h);
    summands = λ p u v hp lu lv hu hv s. let (a, b) = e.summands p u v hp lu lv (from u lu hu) (from v lv hv) s in (multiple_modulo_as a, multiple_modulo_as b);
  }

-- ---- lines and the other generators
pub record Parted (S : Row → Type 0) (X : List Row) : Type 0 where
  pub lines : List Row
  pub others : List Row
  pub lines_are : (k : Row) → Among k lines → Among k X × S (opposite k)
  pub others_are : (g : Row) → Among g others → Among g X × ¬ (S (opposite g))
  pub covers : (x : Row) → Among x X → Among x lines ⊎ Among x others

pub parted : (S : Row → Type 0) (X : List Row) → ((x : Row) → Among x X → S (opposite x) ⊎ ¬ (S (opposite x))) → Parted S X
parted S [] f = record { lines = []; others = []; lines_are = λ k i. elim i [ ]; others_are = λ k i. elim i [ ]; covers = λ k i. elim i [ ] }
parted S (x ∷ X) f =
    let r = parted S X (λ y i. f y (there i)) in
    elim (f x here) [
      | inl h ↦ record {
        lines = x ∷ r.lines;
        others = r.others;
        lines_are = first_line h r;
        others_are = λ g i. (there (r.others_are g i).0, (r.others_are g i).1);
        covers = line_covers r;
      }
      | inr h ↦ record {
        lines = r.lines;
        others = x ∷ r.others;
        lines_are = λ k i. (there (r.lines_are k i).0, (r.lines_are k i).1);
        others_are = first_other h r;
        covers = other_covers r;
      }
    ]
  where
    first_line : S (opposite x) → (r : Parted S X) → (k : Row) → Among k (x ∷ r.lines) → Among k (x ∷ X) × S (opposite k)
    first_line h r k here = (here, h)
    first_line h r k (there i) = (there (r.lines_are k i).0, (r.lines_are k i).1)

    line_covers : (r : Parted S X) → (y : Row) → Among y (x ∷ X) → Among y (x ∷ r.lines) ⊎ Among y r.others
    line_covers r y here = inl here
    line_covers r y (there i) = elim (r.covers y i) [ inl j ↦ inl (there j) | inr j ↦ inr j ]

    first_other : ¬ (S (opposite x)) → (r : Parted S X) → (k : Row) → Among k (x ∷ r.others) → Among k (x ∷ X) × ¬ (S (opposite k))
    first_other h r k here = (here, h)
    first_other h r k (there i) = (there (r.others_are k i).0, (r.others_are k i).1)

    other_covers : (r : Parted S X) → (y : Row) → Among y (x ∷ X) → Among y r.lines ⊎ Among y (x ∷ r.others)
    other_covers r y here = inr here
    other_covers r y (there i) = elim (r.covers y i) [ inl j ↦ inl j | inr j ↦ inr (there j) ]

-- with an element in the middle
among_without : (A B : List Row) (g : Row) {y : Row} → Among y (A ++ B) → Among y (A ++ g ∷ B)
among_without A B g i = elim (among_append A B i) [ inl j ↦ among_append_left (g ∷ B) j | inr j ↦ among_append_right A (there j) ]

among_moved : (A B : List Row) (g : Row) {y : Row} → Among y (g ∷ (A ++ B)) → Among y (A ++ g ∷ B)
among_moved A B g here = among_append_right A here
among_moved A B g (there i) = among_without A B g i

among_moved_back : (A B : List Row) (g : Row) {y : Row} → Among y (A ++ g ∷ B) → Among y (g ∷ (A ++ B))
among_moved_back A B g i = elim (among_append A (g ∷ B) i) [ inl j ↦ there (among_append_left B j) | inr j ↦ last j ]
  where
    last : {y : Row} → Among y (g ∷ B) → Among y (g ∷ (A ++ B))
    last here = here
    last (there j) = there (among_append_right A j)

-- an element that the others generate is not needed
in_without : (A B K : List Row) (g : Row) → InCone (A ++ B) K g → {x : Row} → InCone (A ++ g ∷ B) K x → InCone (A ++ B) K x
in_without A B K g h k = in_through (A ++ B) K (A ++ g ∷ B) K (λ y i. each y (among_moved_back A B g i)) (λ l i. (in_line i, in_line_opposite i)) k
  where
    each : (y : Row) → Among y (g ∷ (A ++ B)) → InCone (A ++ B) K y
    each y here = h
    each y (there i) = in_generator i

-- ---- dropping what the rest generates
module _ (n : ℕ) (S : Row → Type 0) (cs : IsConeSet S) (K : List Row) (hk : HasCols n K) (line : (x : Row) → length x ≡ n → InLineality S x → InCone [] K x) where
  pub record Reduced (A B : List Row) : Type 0 where
    pub rows : List Row
    pub some : (h : Row) → Among h rows → Among h B
    pub each : (h : Row) → Among h rows → IsExtreme n S h
    pub enough : (x : Row) → S x → InCone (A ++ rows) K x
    pub once : AllPairs (λ v w. ¬ (SameModulo n S v w)) rows

  -- a row that is like a generator of a cone with the lines is in that cone
  pub alike_in : (B : List Row) (g h : Row) → Among h B → SameModulo n S g h → InCone B K g
  alike_in B g h i t =
      let w0 : InCone B K (opposite t.w) = in_of_lines (lines_opposite K t.w (line t.w t.cols t.line)) in
      in_divide t.k_positive (in_same (record { at = λ i. let q = simp (entry-times, entry-plus) at (t.same.at i) in simp (entry-times, entry-plus, entry-opposite) (omega (arith, ints)) }) (in_plus (in_times (weaken t.p_positive) (in_generator i)) w0))
    where
      in_of_lines : {x : Row} → InCone [] K x → InCone B K x
      in_of_lines h = in_of B [] K (λ g j. elim j [ ]) h

  dropped : (A : List Row) (g : Row) (B : List Row) → Reduced A B → Reduced A (g ∷ B)
  dropped A g B r = record { rows = r.rows; some = λ h i. there (r.some h i); each = r.each; enough = r.enough; once = r.once }

  kept : (A : List Row) (g : Row) (B : List Row) → length g ≡ n → ¬ (S (opposite g)) → ¬ (InCone (A ++ B) K g) → ((x : Row) → InCone (g ∷ (A ++ B)) K x → S x) → ((x : Row) → S x → InCone (g ∷ (A ++ B)) K x) → Reduced (g ∷ A) B → Reduced A (g ∷ B)
  kept A g B lg not_line needed sub enough r = record {
    rows = g ∷ r.rows;
    some = some_kept;
    each = each_kept;
    enough = λ x k. in_of (A ++ g ∷ r.rows) (g ∷ (A ++ r.rows)) K (λ y i. among_moved A r.rows g i) (r.enough x k);
    once = AllPairs_cons (λ v w. ¬ (SameModulo n S v w)) g r.rows (λ y i t. needed (alike_in (A ++ B) g y (among_append_right A (r.some y i)) t)) r.once;
  }
    where
      some_kept : (h : Row) → Among h (g ∷ r.rows) → Among h (g ∷ B)
      some_kept h here = here
      some_kept h (there i) = there (r.some h i)

      each_kept : (h : Row) → Among h (g ∷ r.rows) → IsExtreme n S h
      each_kept h here = extreme_as n (InCone (g ∷ (A ++ B)) K) S (λ x l k. sub x k) (λ x l k. enough x k) (extreme n (A ++ B) K g lg needed (λ k. not_line (sub (opposite g) k)))
      each_kept h (there i) = r.each h i

  pub reduced : (A B : List Row) → HasCols n A → HasCols n B → ((g : Row) → Among g B → S g × ¬ (S (opposite g))) → ((x : Row) → InCone (A ++ B) K x → S x) → ((x : Row) → S x → InCone (A ++ B) K x) → Reduced A B
  reduced A [] ha hb f sub enough = record { rows = []; some = λ h i. elim i [ ]; each = λ h i. elim i [ ]; enough = enough; once = λ i j d l m. absurd (omega arith) }
  reduced A (g ∷ B) ha hb f sub enough =
      elim (membership_decided n (A ++ B) K (all_append (λ (x : Row). length x ≡ n) A B ha hb.1) hk g hb.0) [
        | inl h ↦ dropped A g B (reduced A B ha hb.1 (λ y i. f y (there i)) (λ x k. sub x (in_of (A ++ g ∷ B) (A ++ B) K (λ y i. among_without A B g i) k)) (λ x k. in_without A B K g h (enough x k)))
        | inr h ↦ kept A g B hb.0 (λ o. (f g here).1 o) h
            (λ x k. sub x (in_of (A ++ g ∷ B) (g ∷ (A ++ B)) K (λ y i. among_moved A B g i) k))
            (λ x k. in_of (g ∷ (A ++ B)) (A ++ g ∷ B) K (λ y i. among_moved_back A B g i) (enough x k))
            (reduced (g ∷ A) B (hb.0, ha) hb.1 (λ y i. f y (there i)) (λ x k. sub x (in_of (A ++ g ∷ B) (g ∷ (A ++ B)) K (λ y i. among_moved A B g i) k)) (λ x k. in_of (g ∷ (A ++ B)) (A ++ g ∷ B) K (λ y i. among_moved_back A B g i) (enough x k)))
      ]

-- ---- the theorem
module _ (n : ℕ) (G L : List Row) (hg : HasCols n G) (hl : HasCols n L) where
  parts : Parted (InCone G L) G
  parts = parted (InCone G L) G (λ x i. membership_decided n G L hg hl (opposite x) (length-opposite x ∙ cols_at i hg))

  K : List Row
  unfolding parts
  K = L ++ parts.lines

  K_cols : HasCols n K
  unfolding parts K
  K_cols = all_append (λ (x : Row). length x ≡ n) L parts.lines hl (all_from (λ (x : Row). length x ≡ n) parts.lines (λ k i. cols_at (parts.lines_are k i).0 hg))

  K_lines : (k : Row) → Among k K → InCone G L k × InCone G L (opposite k)
  unfolding parts K
  K_lines k i = elim (among_append L parts.lines i) [
    | inl j ↦ (in_line j, in_line_opposite j)
    | inr j ↦ (in_generator (parts.lines_are k j).0, (parts.lines_are k j).1)
  ]

  inner : (W : List Row) → ((g : Row) → Among g W → InCone G L g) → (x : Row) → InCone W K x → InCone G L x
  inner W f x h = in_through G L W K f K_lines h

  outer : (x : Row) → InCone G L x → InCone parts.others K x
  unfolding parts K
  outer x h = in_through parts.others K G L
      (λ g i. elim (parts.covers g i) [ inl j ↦ in_line (among_append_right L j) | inr j ↦ in_generator j ])
      (λ l i. (in_line (among_append_left parts.lines i), in_line_opposite (among_append_left parts.lines i)))
      h

  spanned : (x : Row) → length x ≡ n → InLineality (InCone G L) x → InCone [] K x
  unfolding parts K
  spanned x l h = in_lines n (InCone G L) (in_cone_set G L) K parts.others (λ g i. (parts.others_are g i).1) (inner parts.others (λ g i. in_generator (parts.others_are g i).0)) x (outer x h.inside) h.opposed

  others_ok : (g : Row) → Among g parts.others → InCone G L g × ¬ (InCone G L (opposite g))
  unfolding parts
  others_ok g i = (in_generator (parts.others_are g i).0, (parts.others_are g i).1)

  final : Reduced n (InCone G L) (in_cone_set G L) K K_cols spanned [] parts.others
  unfolding parts
  final = reduced n (InCone G L) (in_cone_set G L) K K_cols spanned [] parts.others tt
      (all_from (λ (x : Row). length x ≡ n) parts.others (λ g i. cols_at (parts.others_are g i).0 hg))
      others_ok
      (inner parts.others (λ g i. (others_ok g i).0))
      outer

  final_ok : (g : Row) → Among g final.rows → (length g ≡ n) × InCone G L g × ¬ (InCone G L (opposite g))
  final_ok g i = let e = final.each g i in (e.cols, e.inside, e.not_line)

  final_inner : (x : Row) → InCone final.rows K x → InCone G L x
  final_inner x h = inner final.rows (λ g i. (final_ok g i).1) x h

  order : IsOrder n (InCone G L) final.rows
  order = record {
    each = All_among (λ v. IsExtreme n (InCone G L) v) final.rows final.each;
    all = λ r e. let w = like_generator n (InCone G L) (in_cone_set G L) K final.rows final_ok final_inner r e (final.enough r e.inside) in Any_among (λ v. SameModulo n (InCone G L) r v) w.1 w.2;
    once = final.once;
  }

  -- an order of the extreme rays whose rows are generators, and lines that with it generate the cone
  pub record Generators : Type 0 where
    pub rows : List Row
    pub lines : List Row
    pub some : (g : Row) → Among g rows → Among g G
    pub order : IsOrder n (InCone G L) rows
    pub cols : HasCols n lines
    pub both_ways : (k : Row) → Among k lines → InCone G L k × InCone G L (opposite k)
    pub enough : (x : Row) → InCone G L x → InCone rows lines x

  pub generators : Generators
  unfolding parts
  generators = record { rows = final.rows; lines = K; some = λ g i. (parts.others_are g (final.some g i)).0; order = order; cols = K_cols; both_ways = K_lines; enough = final.enough }

  lineality : (x : Row) → length x ≡ n → InLineality (InCone G L) x ↔ InCone [] K x
  lineality x l = (spanned x l, λ h. record { inside = inner [] (λ g i. elim i [ ]) x h; opposed = inner [] (λ g i. elim i [ ]) (opposite x) (lines_opposite K x h) })

pub extremes_generate : ExtremesGenerate
extremes_generate n G L hg hl =
    ((final n G L hg hl).rows, K n G L hg hl, K_cols n G L hg hl, order n G L hg hl, lineality n G L hg hl, λ x l. ((final n G L hg hl).enough x, final_inner n G L hg hl x))
