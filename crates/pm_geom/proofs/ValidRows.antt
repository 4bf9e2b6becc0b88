-- Where rows F and lines E are valid and vanish on a cone, and cut it out, the valid rows are cone(F) + span(E).
use Rattle.pm_vector.proofs.ConeLaws.{dot_in, in_generator, in_line, in_line_opposite}
use Rattle.pm_vector.proofs.Lists.{Among, all_from, here, there}
use Rattle.pm_vector.proofs.RowLaws.{dot_comm, length-opposite}
use Rattle.pm_vector.specs.Cones.{InCone, InSpan}
use Rattle.pm_vector.specs.Rows.{HasCols, Row, dot, opposite}
use Rattle.pm_geom.proofs.Apart.{cond_first, cond_second, not_below, not_below_at, null, null_at, products}
use Rattle.pm_geom.proofs.Facets.{dot-opposite, opposite-dot, order_as, valid_by_products, vanishes_line}
use Rattle.pm_geom.proofs.Polar.{bipolar, cols_at, cut_from}
use Rattle.pm_geom.specs.Cones.{CutOut, InLineality, IsOrder, IsValid, Vanishes}
use Rattle.std.proofs.Common.{Bool, T, arith, cond, false, true, ◌∙◌}
use Rattle.std.proofs.lemmas.Int.{ints}
use Rattle.std.specs.List.{AllByRecursion}
use Rattle.std.specs.Prelude.{List, [], length, ℕ, ◌↔◌, ◌∷◌, ◌≡◌}
use lib.IntN.{pos, ℤ}

-- a row that is 0 on the generators and the lines is 0 on the cone
pub null_in : (a : Row) (G L : List Row) → ((g : Row) → Among g G → dot a g ≡ pos 0) → ((l : Row) → Among l L → dot a l ≡ pos 0) → {x : Row} → InCone G L x → dot a x ≡ pos 0
null_in a G L f e h =
    let p = dot_in a G L (λ g i. let q = f g i in omega (arith, ints)) e h in
    let r = rw opposite-dot at (dot_in (opposite a) G L (λ g i. let q = f g i in rw opposite-dot (omega (arith, ints))) (λ l i. let q = e l i in rw opposite-dot (omega (arith, ints))) h) in
    omega (arith, ints)

-- ---- tables of products of literal rows, which are computed
abbrev pub table : (ℤ → Bool) → List Row → List Row → Bool
table test [] V = true
table test (f ∷ F) V = cond (products test f V) (table test F V) false

row_of_table : (test : ℤ → Bool) (V : List Row) {f : Row} {F : List Row} → Among f F → T (table test F V) → T (products test f V)
row_of_table test V {f} (here {xs = F}) t = cond_first (products test f V) (table test F V) t
row_of_table test V (there {y = y} {xs = F} i) t = row_of_table test V i (cond_second (products test y V) (table test F V) t)

pub record Tables (G L F E : List Row) : Type 0 where
  pub rows : T (table not_below F G)
  pub rows_lines : T (table null F L)
  pub lines : T (table null E G)
  pub lines_lines : T (table null E L)

module _ (n : ℕ) (G L F E : List Row) (hg : HasCols n G) (hl : HasCols n L) (hf : HasCols n F) (he : HasCols n E) (t : Tables G L F E) (enough : (x : Row) → length x ≡ n → CutOut F x → AllByRecursion (λ e. dot e x ≡ pos 0) E → InCone G L x) where
  pub in_valid : (a : Row) → length a ≡ n → InCone F E a → IsValid n G L a
  in_valid a la h =
      valid_by_products n G L hg hl a la
      (λ g i. rw dot_comm (dot_in g F E (λ f j. rw dot_comm (not_below_at f i (row_of_table not_below G j t.rows))) (λ e j. dot_comm g e ∙ null_at e i (row_of_table null G j t.lines)) h))
      (λ l i. dot_comm a l ∙ null_in l F E (λ f j. dot_comm l f ∙ null_at f i (row_of_table null L j t.rows_lines)) (λ e j. dot_comm l e ∙ null_at e i (row_of_table null L j t.lines_lines)) h)

  pub valid_in : (a : Row) → length a ≡ n → IsValid n G L a → InCone F E a
  valid_in a la v = bipolar n F E hf he a la (λ x w. rw dot_comm (v.holds x w.cols (enough x w.cols (rows x w) (lines x w))))
    where
      rows : (x : Row) → IsValid n F E x → CutOut F x
      rows x w = cut_from F x (λ f i. rw dot_comm (w.holds f (cols_at i hf) (in_generator i)))

      lines : (x : Row) → IsValid n F E x → AllByRecursion (λ e. dot e x ≡ pos 0) E
      lines x w = all_from (λ e. dot e x ≡ pos 0) E (λ e i.
          let p = w.holds e (cols_at i he) (in_line i) in
          let q = rw dot-opposite at (w.holds (opposite e) (length-opposite e ∙ cols_at i he) (in_line_opposite i)) in
          dot_comm e x ∙ omega (arith, ints))

  pub facet_order : IsOrder n (InCone F E) F → IsOrder n (IsValid n G L) F
  facet_order o = order_as n (InCone F E) (IsValid n G L) in_valid valid_in o

  pub vanishing_rows : ((a : Row) → length a ≡ n → InLineality (InCone F E) a → InCone [] E a) → (a : Row) → length a ≡ n → Vanishes n G L a ↔ InSpan E a
  vanishing_rows line a la = (to, from)
    where
      to : Vanishes n G L a → InSpan E a
      to v =
          let s = (vanishes_line n G L hg hl a la).0 v in
          line a la (record { inside = valid_in a la s.inside; opposed = valid_in (opposite a) (length-opposite a ∙ la) s.opposed })

      from : InSpan E a → Vanishes n G L a
      from h = record {
        cols = la;
        holds = λ x lx k. dot_comm a x ∙ null_in x [] E (λ g i. elim i [ ]) (λ e i. dot_comm x e ∙ null_in e G L (λ g j. null_at e j (row_of_table null G i t.lines)) (λ l j. null_at e j (row_of_table null L i t.lines_lines)) k) h;
      }
