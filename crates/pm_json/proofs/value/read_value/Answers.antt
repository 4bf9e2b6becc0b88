use Rattle.std.proofs.Common.{ap, sym, ◌∙◌, ◌≡◌, ◌≢◌, Ok, Err}
use Rattle.std.proofs.lemmas.Result.{IfErr-weaker, IfOk-weaker}
use Rattle.std.specs.Prelude.{IsTrue}
use Rattle.serde_json.specs.View.{view}
use Rattle.pm_types.specs.Forms.{is_formed}
use Rattle.pm_types.specs.Views.{view_of}
use Rattle.pm_json.specs.Readings.{matrix_reading, sets_of}
use Rattle.pm_json.proofs.Formed.{matrix_formed, sets_formed}
use Rattle.pm_json.proofs.Grammar.{text_of_kind}
use Rattle.pm_json.proofs.GrammarReads.{no_text}
use Rattle.pm_json.specs.Grammar.{IsJsonOf}
use Rattle.pm_json.specs.Readings.{reading_of}
use Rattle.pm_json.specs.declared.fail.ValueFail.TheVariants.{Memory}
use Rattle.pm_types.specs.Values.{PropertyValue as ValueSeen}
use Rattle.pm_json.proofs.Parts.{both_ok}
use Rattle.pm_props.specs.declared.property.ValueKind.TheVariants as kind
use Rattle.pm_json.proofs.value.read_value.Goals as goal

pub returns-in-Mat-clause-formed : goal.returns-in-Mat-clause-formed
returns-in-Mat-clause-formed c =
    IfOk-weaker c.read_matrix.result (λ value. matrix_reading c.args.p (view c.args.v.now) ≡ Ok (view_of value)) (λ value. IsTrue (is_formed c.args.p (view_of value)))
    (λ value is. matrix_formed c.args.p (ap (λ r. r.kind) (sym (c.kind.view_is ∙ c.row.ensures)) ∙ c.in-Mat.is) (view c.args.v.now) (view_of value) is)
    c.read_matrix.ensures.ok

pub returns-in-Sets-clause-formed : goal.returns-in-Sets-clause-formed
returns-in-Sets-clause-formed c =
    IfOk-weaker c.read_sets.result (λ value. sets_of (view c.args.v.now) ≡ Ok (view_of value)) (λ value. IsTrue (is_formed c.args.p (view_of value)))
    (λ value is. sets_formed c.args.p (ap (λ r. r.kind) (sym (c.kind.view_is ∙ c.row.ensures)) ∙ c.in-Sets.is) (view c.args.v.now) (view_of value) is)
    c.read_sets.ensures.ok

pub returns-in-Mat-clause-text : goal.returns-in-Mat-clause-text
returns-in-Mat-clause-text c =
    both_ok c.read_matrix.result (λ value is formed. text_of_kind kind.Mat c.args.p (view c.args.v.now) (view_of value) is formed) c.read_matrix.ensures.ok (returns-in-Mat-clause-formed c)

pub returns-in-Sets-clause-text : goal.returns-in-Sets-clause-text
returns-in-Sets-clause-text c =
    both_ok c.read_sets.result (λ value is formed. text_of_kind kind.Sets c.args.p (view c.args.v.now) (view_of value) is formed) c.read_sets.ensures.ok (returns-in-Sets-clause-formed c)

pub returns-in-Counts-clause-text : goal.returns-in-Counts-clause-text
returns-in-Counts-clause-text c =
    both_ok c.read_counts.result (λ value is formed. text_of_kind kind.Counts c.args.p (view c.args.v.now) (view_of value) is formed) c.read_counts.ensures.ok c.read_counts.ensures.formed

pub returns-in-Edges-clause-text : goal.returns-in-Edges-clause-text
returns-in-Edges-clause-text c =
    both_ok c.read_edges.result (λ value is formed. text_of_kind kind.Edges c.args.p (view c.args.v.now) (view_of value) is formed) c.read_edges.ensures.ok c.read_edges.ensures.formed

pub returns-in-Lattice-clause-text : goal.returns-in-Lattice-clause-text
returns-in-Lattice-clause-text c =
    both_ok c.read_lattice.result (λ value is formed. text_of_kind kind.Lattice c.args.p (view c.args.v.now) (view_of value) is formed) c.read_lattice.ensures.ok c.read_lattice.ensures.formed

pub returns-in-Mat-clause-no_text : goal.returns-in-Mat-clause-no_text
returns-in-Mat-clause-no_text c =
    IfErr-weaker c.read_matrix.result (λ e. e ≢ Memory → reading_of kind.Mat c.args.p (view c.args.v.now) ≡ Err e) (λ e. e ≢ Memory → (v : ValueSeen) → ¬ (IsJsonOf c.args.p (view c.args.v.now) v))
    (λ e fault other v j. no_text kind.Mat c.args.p (view c.args.v.now) e (ap (λ r. r.kind) (sym (c.kind.view_is ∙ c.row.ensures)) ∙ c.in-Mat.is) (fault other) v j) c.read_matrix.ensures.fault

pub returns-in-Sets-clause-no_text : goal.returns-in-Sets-clause-no_text
returns-in-Sets-clause-no_text c =
    IfErr-weaker c.read_sets.result (λ e. e ≢ Memory → reading_of kind.Sets c.args.p (view c.args.v.now) ≡ Err e) (λ e. e ≢ Memory → (v : ValueSeen) → ¬ (IsJsonOf c.args.p (view c.args.v.now) v))
    (λ e fault other v j. no_text kind.Sets c.args.p (view c.args.v.now) e (ap (λ r. r.kind) (sym (c.kind.view_is ∙ c.row.ensures)) ∙ c.in-Sets.is) (fault other) v j) c.read_sets.ensures.fault

pub returns-in-Counts-clause-no_text : goal.returns-in-Counts-clause-no_text
returns-in-Counts-clause-no_text c =
    IfErr-weaker c.read_counts.result (λ e. e ≢ Memory → reading_of kind.Counts c.args.p (view c.args.v.now) ≡ Err e) (λ e. e ≢ Memory → (v : ValueSeen) → ¬ (IsJsonOf c.args.p (view c.args.v.now) v))
    (λ e fault other v j. no_text kind.Counts c.args.p (view c.args.v.now) e (ap (λ r. r.kind) (sym (c.kind.view_is ∙ c.row.ensures)) ∙ c.in-Counts.is) (fault other) v j) c.read_counts.ensures.fault

pub returns-in-Edges-clause-no_text : goal.returns-in-Edges-clause-no_text
returns-in-Edges-clause-no_text c =
    IfErr-weaker c.read_edges.result (λ e. e ≢ Memory → reading_of kind.Edges c.args.p (view c.args.v.now) ≡ Err e) (λ e. e ≢ Memory → (v : ValueSeen) → ¬ (IsJsonOf c.args.p (view c.args.v.now) v))
    (λ e fault other v j. no_text kind.Edges c.args.p (view c.args.v.now) e (ap (λ r. r.kind) (sym (c.kind.view_is ∙ c.row.ensures)) ∙ c.in-Edges.is) (fault other) v j) c.read_edges.ensures.fault

pub returns-in-Lattice-clause-no_text : goal.returns-in-Lattice-clause-no_text
returns-in-Lattice-clause-no_text c =
    IfErr-weaker c.read_lattice.result (λ e. e ≢ Memory → reading_of kind.Lattice c.args.p (view c.args.v.now) ≡ Err e) (λ e. e ≢ Memory → (v : ValueSeen) → ¬ (IsJsonOf c.args.p (view c.args.v.now) v))
    (λ e fault other v j. no_text kind.Lattice c.args.p (view c.args.v.now) e (ap (λ r. r.kind) (sym (c.kind.view_is ∙ c.row.ensures)) ∙ c.in-Lattice.is) (fault other) v j) c.read_lattice.ensures.fault

pub returns-in-Int-clause-text : goal.returns-in-Int-clause-text
returns-in-Int-clause-text c =
    both_ok c.read_whole.result (λ value is formed. text_of_kind kind.Int c.args.p (view c.args.v.now) (view_of value) is formed) c.read_whole.ensures.ok c.read_whole.ensures.formed

pub returns-in-Number-clause-text : goal.returns-in-Number-clause-text
returns-in-Number-clause-text c =
    both_ok c.read_number_value.result (λ value is formed. text_of_kind kind.Number c.args.p (view c.args.v.now) (view_of value) is formed) c.read_number_value.ensures.ok c.read_number_value.ensures.formed

pub returns-in-Int-clause-no_text : goal.returns-in-Int-clause-no_text
returns-in-Int-clause-no_text c =
    IfErr-weaker c.read_whole.result (λ e. reading_of kind.Int c.args.p (view c.args.v.now) ≡ Err e) (λ e. e ≢ Memory → (v : ValueSeen) → ¬ (IsJsonOf c.args.p (view c.args.v.now) v))
    (λ e fault other v j. no_text kind.Int c.args.p (view c.args.v.now) e (ap (λ r. r.kind) (sym (c.kind.view_is ∙ c.row.ensures)) ∙ c.in-Int.is) fault v j) c.read_whole.ensures.fault

pub returns-in-Bool-clause-no_text : goal.returns-in-Bool-clause-no_text
returns-in-Bool-clause-no_text c =
    IfErr-weaker c.read_truth.result (λ e. reading_of kind.Bool c.args.p (view c.args.v.now) ≡ Err e) (λ e. e ≢ Memory → (v : ValueSeen) → ¬ (IsJsonOf c.args.p (view c.args.v.now) v))
    (λ e fault other v j. no_text kind.Bool c.args.p (view c.args.v.now) e (ap (λ r. r.kind) (sym (c.kind.view_is ∙ c.row.ensures)) ∙ c.in-Bool.is) fault v j) c.read_truth.ensures.fault

pub returns-in-Number-clause-no_text : goal.returns-in-Number-clause-no_text
returns-in-Number-clause-no_text c =
    IfErr-weaker c.read_number_value.result (λ e. reading_of kind.Number c.args.p (view c.args.v.now) ≡ Err e) (λ e. e ≢ Memory → (v : ValueSeen) → ¬ (IsJsonOf c.args.p (view c.args.v.now) v))
    (λ e fault other v j. no_text kind.Number c.args.p (view c.args.v.now) e (ap (λ r. r.kind) (sym (c.kind.view_is ∙ c.row.ensures)) ∙ c.in-Number.is) fault v j) c.read_number_value.ensures.fault
