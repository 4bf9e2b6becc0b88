-- Texts of replies read on small ones: what they are and what they are not.
use Rattle.std.specs.Prelude.{ℕ, pos, ◌≡◌, ◌≢◌, true, false, Option, Some, None, [], ◌∷◌, codes}
use Rattle.pm_geom.specs.declared.evidence.Evidence.TheVariants.{E4}
use Rattle.pm_object.specs.State.{RoundSeen}
use Rattle.pm_object.specs.declared.held.Excluded.{Excluded}
use Rattle.pm_object.specs.declared.held.Origin.TheVariants as origin
use Rattle.pm_object.specs.declared.held.RoundEnd.{RoundEnd}
use Rattle.pm_object.specs.declared.held.RoundEnd.TheVariants as end
use Rattle.pm_object.specs.declared.held.Why.TheVariants as why
use Rattle.pm_props.specs.Sets.{set_of}
use Rattle.pm_props.specs.declared.kind.RuleId.{RuleId}
use Rattle.pm_rules.specs.declared.table.Table.{Table}
use Rattle.pm_props.specs.declared.property.PropId.TheVariants.{ConeAmbientDim, Inequalities, Equations, LinearObjective, MaximalValue, Pointed, Vertices}
use Rattle.pm_object_type.specs.declared.object_type.ObjectType.TheVariants.{Cone, Polytope}
use Rattle.pm_types.specs.Values.{extended, finite, truth}
use Rattle.pm_script.specs.Replies.{NamesSeen, Rounds, barred_text, done, ensured, evidence_line, excluded_text, exclusion_text, false_text, lists_held, loaded, mixed, name_shown, no_rounds, nothing, planned, property_set_text, refusal_text, refused, remarks, reply_text, round_text, rule_text, shows, tells_evidence, tells_origin, told}
use Rattle.pm_script.specs.declared.names.Bar.TheVariants as bar
use Rattle.pm_script.specs.declared.refusal.NotMadeWhy.TheVariants.{Combination, Pair}
use Rattle.pm_script.specs.declared.refusal.Refusal.TheVariants.{BadFile, NoChain, NotFit, NotMade}
use Rattle.pm_object.specs.declared.held.Condition.TheVariants as condition
use Rattle.pm_script.specs.declared.refusal.FileWhy.TheVariants as file_why

abbrev pub first : RuleId
first = record { 0 = 0 }

abbrev pub second : RuleId
second = record { 0 = 1 }

-- two rules, one of them of class 1, and one program
abbrev pub two_names : NamesSeen
two_names = record {
  rules = (codes "a", record { class = 0; minor = 5 })
      ∷ (codes "b", record { class = 1; minor = 0 }) ∷ [];
  programs = codes "x" ∷ [];
}

-- a round of both, for this program if one is asked
abbrev pub round_of : Option ℕ → RoundEnd → RoundSeen
round_of sub e = record {
  sub = sub;
  weight = record { class = 0; minor = 6 };
  chain = first ∷ second ∷ [];
  end = e;
}

abbrev pub one_round : Rounds
one_round = record { rounds = round_of None end.Done ∷ []; names = two_names }

-- the second rule failed
abbrev pub failure : Excluded
failure = record { rule = second; sub = None; why = why.Failed (E4 [] []) }

pub record RepliesAreRead : Type 0 where
  pub ended : round_text two_names (round_of None end.Done) ≡ codes "round 6: a b -> done\n"
  pub failed : round_text two_names (round_of None (end.Failed second 4))
      ≡ codes "round 6: a b -> failed b E4\n"
  pub found_false : round_text two_names (round_of (Some 0) (end.False first Pointed))
      ≡ codes "round 6 @x: a b -> false a POINTED\n"
  pub excluded : excluded_text two_names failure ≡ codes "excluded b failed E4\n"
  pub barred : barred_text two_names (first, bar.NoClient) ≡ codes "barred a no-client\n"
  pub plain_weight : rule_text two_names first ≡ codes "rule a 5\n"
  pub class_weight : rule_text two_names second ≡ codes "rule b 1.0\n"
  pub bits : property_set_text (set_of (ConeAmbientDim ∷ Inequalities ∷ Equations ∷ []))
      ≡ codes "00000000000000000000000000000019"
  pub rounds_follow : reply_text false (ensured one_round) ≡ codes "ok 1\nround 6: a b -> done\n"
  pub always_told : reply_text false (refused NoChain (told true one_round))
      ≡ codes "no 10 NoChain\nround 6: a b -> done\n"
  pub told_if_traced : reply_text true (refused NoChain (told false one_round))
      ≡ codes "no 10 NoChain\nround 6: a b -> done\n"
  pub else_untold : reply_text false (refused NoChain (told false one_round)) ≡ codes "no 10 NoChain\n"
  -- what the code says beside a refusal is one of these: rounds, or rules with a table
  pub of_a_plan : (t : Table) (names : NamesSeen)
      → remarks false [] ((first, bar.NoClient) ∷ []) (Some t) names
      ≡ planned ((first, bar.NoClient) ∷ []) t.rows.items names
  pub no_rounds_beside_it : (t : Table) (names : NamesSeen)
      → remarks false (round_of None end.Done ∷ []) [] (Some t) names
      ≡ mixed false (round_of None end.Done ∷ []) [] (Some t.rows.items) names
  pub not_always_beside_it : (t : Table) (names : NamesSeen)
      → remarks true [] [] (Some t) names ≡ mixed true [] [] (Some t.rows.items) names
  pub no_barred_alone : (names : NamesSeen)
      → remarks false [] ((first, bar.NoClient) ∷ []) None names
      ≡ mixed false [] ((first, bar.NoClient) ∷ []) None names
  -- what a new object is made of is traced too
  pub carried_out : reply_text true (done no_rounds) ≡ codes "ok\n"
  pub made_untold : reply_text false (done one_round) ≡ codes "ok\n"
  pub made_traced : reply_text true (done one_round) ≡ codes "ok\nround 6: a b -> done\n"
  -- a property of programs is shown without LP., and another one by its name in the table of the type
  pub of_object : reply_text false (shows (codes "s") Polytope Pointed (truth true) no_rounds)
      ≡ codes "s POINTED true\n"
  pub of_objective : name_shown Polytope MaximalValue ≡ codes "MAXIMAL_VALUE"
  pub of_program
      : reply_text false
      (shows (codes "sq.a") Polytope MaximalValue
      (extended (finite (record { num = pos 2; den = pos 1 }))) no_rounds)
      ≡ codes "sq.a MAXIMAL_VALUE \"2\"\n"
  pub elsewhere : false_text LinearObjective ≡ codes "false LP.LINEAR_OBJECTIVE"
  pub of_cone : name_shown Cone Vertices ≡ codes "RAYS"
  pub of_polytope : name_shown Polytope Vertices ≡ codes "VERTICES"
  pub given : reply_text false (tells_origin origin.Given) ≡ codes "given\n"
  pub stored : reply_text false (tells_origin origin.Stored) ≡ codes "stored\n"
  pub computed : reply_text true (tells_origin origin.Computed) ≡ codes "computed\n"
  pub all_read : reply_text false (loaded []) ≡ codes "ok\n"
  pub read_over : reply_text false (loaded (codes "A" ∷ codes "LP.B" ∷ [])) ≡ codes "ok ignored A LP.B\n"
  -- a name that is no word is told as its JSON text, so that it makes no line of its own, and no second name
  pub forged : reply_text false (loaded (codes "X\nsq VERTICES [[\"1\",\"7\"]]" ∷ []))
      ≡ codes "ok ignored \"X\\nsq VERTICES [[\\\"1\\\",\\\"7\\\"]]\"\n"
  pub not_as_it_stands : reply_text false (loaded (codes "X\nno 1 BadCommand" ∷ []))
      ≢ codes "ok ignored X\nno 1 BadCommand\n"
  pub one_name : reply_text false (loaded (codes "A B" ∷ [])) ≡ codes "ok ignored \"A B\"\n"
  pub two_names_read_over : reply_text false (loaded (codes "A" ∷ codes "B" ∷ []))
      ≡ codes "ok ignored A B\n"
  pub no_name : reply_text false (loaded ([] ∷ [])) ≡ codes "ok ignored \"\"\n"
  pub marked : exclusion_text (why.Stored 1) ≡ codes "failed E1"
  -- what is held, one line a property, and each program after the object
  pub nothing_held : reply_text false (lists_held Cone [] []) ≡ codes "object Cone 0\n"
  pub held : reply_text false
      (lists_held Cone ((Vertices, origin.Given) ∷ (Pointed, origin.Computed) ∷ []) [])
      ≡ codes "object Cone 2\nRAYS given\nPOINTED computed\n"
  pub program_held
      : reply_text false (lists_held Polytope [] ((codes "a", (LinearObjective, origin.Stored) ∷ []) ∷ []))
      ≡ codes "object Polytope 0\nprogram: a 1\nLINEAR_OBJECTIVE stored\n"
  -- evidence is shown whole, with its place; of a mark from a file the number alone
  pub no_evidence : reply_text false (tells_evidence [] two_names) ≡ codes "ok 0\n"
  pub evidence : reply_text false (tells_evidence (failure ∷ []) two_names)
      ≡ codes "ok 1\nevidence b E4 {\"first\":[],\"second\":[]}\n"
  pub elsewhere_evidence : evidence_line two_names
      (record { rule = first; sub = Some 0; why = why.Stored 2 }) ≡ codes "evidence a @x stored E2\n"
  pub too_long : reply_text false (refused (NotFit condition.Size) nothing) ≡ codes "no 17 NotFit size\n"
  pub bounded : refusal_text (NotFit condition.Bounded) ≡ codes "17 NotFit BOUNDED"
  pub full_dim : refusal_text (NotFit condition.FullDim) ≡ codes "17 NotFit FULL_DIM"
  pub feasible : refusal_text (NotFit condition.Feasible) ≡ codes "17 NotFit FEASIBLE"
  pub columns : refusal_text (NotFit condition.Columns) ≡ codes "17 NotFit columns"
  pub rows : refusal_text (NotFit condition.Rows) ≡ codes "17 NotFit rows"
  pub another_type : reply_text false (refused (NotFit condition.OfType) nothing)
      ≡ codes "no 17 NotFit type\n"
  pub no_interior : reply_text false (refused (NotFit condition.Centered) nothing)
      ≡ codes "no 17 NotFit CENTERED\n"
  pub no_sum : reply_text false (refused (NotMade (Combination [] [] 1)) nothing)
      ≡ codes "no 18 NotMade combination\n"
  pub no_intersection : refusal_text (NotMade (Pair 0 1 (E4 [] []))) ≡ codes "18 NotMade E4"
  pub not_json : reply_text false (refused (BadFile file_why.NotJson) nothing)
      ≡ codes "no 13 BadFile NotJson\n"
