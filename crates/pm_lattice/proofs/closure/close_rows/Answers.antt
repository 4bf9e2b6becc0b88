-- The loop starts with the set of all places, each turn settles the first open face, and where no face is open all are there.
use Rattle.pm_lattice.proofs.Closing.{closing_end, closing_many, closing_start, closing_turn, first_length}
use Rattle.pm_lattice.proofs.Keys.{entries_inserted, keys_inserted}
use Rattle.pm_lattice.proofs.closure.close_rows.Goals as goal
use Rattle.pm_lattice.specs.Parts.{AreOpen, OpensFrom}
use Rattle.std.proofs.Common.{List, Bool, [], ap, arith, inl, inr, length, subst, ◌∙◌, ◌≡◌}
use Rattle.std.proofs.lemmas.Bool.{cases_lt}
use Rattle.std.proofs.lemmas.List.{length-map, length_push}
use Rattle.std.proofs.lemmas.List.Elements.{All-head, All-tail}
use Rattle.std.specs.BTreeMap.{keys}
use Rattle.std.specs.Map.{keys_of}

pub loop-turn-init : goal.loop-turn-init
loop-turn-init c =
    let entries = rw c.new-pending.ensures.empty at c.in_ok-insert.ensures.entries in
    rw c.new-faces.ensures.items record {
      closing = closing_start c.args.rows.now.row_len c.args.rows.now.rows c.in_ok-full_row.field-0 (keys c.insert.new.self) (ap keys_of entries) (c.in_ok-full_row.ensures.len ∙ c.row_len.ensures) (λ j l. c.in_ok-full_row.ensures.full j (omega (arith, c.row_len.ensures)));
      places = entries_inserted (OpensFrom c.args.rows.now) [] c.insert.new.self.entries c.in_ok-full_row.field-0 0 entries (λ j o. omega arith) (λ k d l. absurd (omega arith));
      part_len = c.in_ok-part.ensures.len ∙ c.row_len-2.ensures;
      turns = omega arith;
    }

pub loop-turn-preserved : goal.loop-turn-preserved
loop-turn-preserved c = record {
  closing = closing_turn c.args.rows.now.row_len c.args.rows.now.rows c.loop-turn.faces.items (keys c.loop-turn.pending) c.in-Some.face (keys c.pop_first.new.self) (keys c.open_parts.new.pending) c.push.new.self.items (ap keys_of c.in-Some.ensures.removal) c.in_ok-push.ensures.items c.loop-turn.invariant.closing c.in-Some.ensures.all_above c.in_ok-open_parts.ensures.opens;
  places = c.in_ok-open_parts.ensures.open;
  part_len = c.in_ok-open_parts.ensures.part_len;
  turns = omega (arith, ap (length {A = List Bool}) c.in_ok-push.ensures.items, length_push c.loop-turn.faces.items c.in-Some.face);
}

pub returns-in_default : goal.returns-in_default
returns-in_default c =
    let v = c.in_default.ensures.variant in
    let none : length (keys c.loop-turn.pending) ≡ 0 = elim (cases_lt 0 (length c.loop-turn.pending.entries)) [ inl l ↦ absurd (let e = v.1 l in cc) | inr l ↦ omega (arith, length-map c.loop-turn.pending.entries (λ e. e.0)) ] in
    (closing_end c.args.rows.now.row_len c.args.rows.now.rows c.loop-turn.faces.items (keys c.loop-turn.pending) none c.loop-turn.invariant.closing, omega arith)

pub open_parts-requires-clause-face_len : goal.open_parts-requires-clause-face_len
open_parts-requires-clause-face_len c = first_length c.args.rows.now.row_len c.args.rows.now.rows c.loop-turn.faces.items (keys c.loop-turn.pending) c.in-Some.face (keys c.pop_first.new.self) (ap keys_of c.in-Some.ensures.removal) c.loop-turn.invariant.closing

pub open_parts-requires-clause-from : goal.open_parts-requires-clause-from
open_parts-requires-clause-from c = All-head (λ e. OpensFrom c.args.rows.now e.0 e.1) (c.in-Some.face, c.in-Some.from) c.pop_first.new.self.entries (subst (λ es. AreOpen c.args.rows.now es) c.in-Some.ensures.removal c.loop-turn.invariant.places)

pub open_parts-requires-clause-open : goal.open_parts-requires-clause-open
open_parts-requires-clause-open c = All-tail (λ e. OpensFrom c.args.rows.now e.0 e.1) (c.in-Some.face, c.in-Some.from) c.pop_first.new.self.entries (subst (λ es. AreOpen c.args.rows.now es) c.in-Some.ensures.removal c.loop-turn.invariant.places)

pub returns : goal.returns
returns c = (closing_many c.args.rows.now.row_len c.args.rows.now.rows c.loop-turn.faces.items (keys c.loop-turn.pending) c.loop-turn.invariant.closing, omega (arith, c.loop-turn.invariant.turns, c.loop-turn-test.false))
