-- The objects of the names are those which were read.
use Rattle.std.proofs.Common.{ap, sym}
use Rattle.std.specs.Option.{option_map}
use Rattle.std.specs.Prelude.{[], string_bytes, ◌∷◌}
use Rattle.pm_command.specs.declared.building.Builder.TheVariants.{One, Two}
use Rattle.pm_machine.proofs.BuildSteps.{one_object, read_there, two_objects}
use Rattle.pm_making.proofs.Fits.{still_made, still_unbuilt}
use Rattle.pm_machine.specs.Built.{HaveRead}
use Rattle.pm_machine.specs.Sessions.{machine_of}
use Rattle.pm_object.specs.State.{ObjectSeen}
use Rattle.pm_machine.proofs.session.Session.build.Goals as goal

pub build_one-requires : goal.build_one-requires
build_one-requires c =
    let read : HaveRead (One c.in-One.what) (machine_of c.args.self.now []) (string_bytes c.in-One.name ∷ []) = rw c.in-One.is at c.requires in
    read_there _ _ (machine_of c.args.self.now []) _ _ _ c.as_str.ensures.value (ap (option_map (λ (z : ObjectSeen). z.state)) (sym c.in-Some.ensures.value)) read.0

pub build_two-requires-clause-first : goal.build_two-requires-clause-first
build_two-requires-clause-first c =
    let read : HaveRead (Two c.in-Two.what) (machine_of c.args.self.now []) (string_bytes c.in-Two.first ∷ string_bytes c.in-Two.second ∷ []) = rw c.in-Two.is at c.requires in
    read_there _ _ (machine_of c.args.self.now []) _ _ _ c.as_str-in-Two.ensures.value (ap (option_map (λ (z : ObjectSeen). z.state)) (sym c.in-Some-get.ensures.value)) read.0

pub build_two-requires-clause-second : goal.build_two-requires-clause-second
build_two-requires-clause-second c =
    let read : HaveRead (Two c.in-Two.what) (machine_of c.args.self.now []) (string_bytes c.in-Two.first ∷ string_bytes c.in-Two.second ∷ []) = rw c.in-Two.is at c.requires in
    read_there _ _ (machine_of c.args.self.now []) _ _ _ c.as_str-in-Two-2.ensures.value (ap (option_map (λ (z : ObjectSeen). z.state)) (sym c.in-Some-get-2.ensures.value)) read.1.0

pub returns-in-Some-clause-built : goal.returns-in-Some-clause-built
returns-in-Some-clause-built c = rw c.in-One.is (record {
  objects = c.in-Some.object.now.state ∷ [];
  are = one_object (machine_of c.args.self.now []) (string_bytes c.in-One.name) _ _ c.as_str.ensures.value (ap (option_map (λ (z : ObjectSeen). z.state)) (sym c.in-Some.ensures.value));
  made = rw c.of_built.ensures (still_made c.build_one.result _ c.build_one.ensures.made);
  unbuilt = rw c.of_built.ensures (still_unbuilt c.build_one.result _ _ c.build_one.ensures.unfit);
})

pub returns-in-Some-get-2-clause-built : goal.returns-in-Some-get-2-clause-built
returns-in-Some-get-2-clause-built c = rw c.in-Two.is (record {
  objects = c.in-Some-get.a.now.state ∷ c.in-Some-get-2.b.now.state ∷ [];
  are =
      two_objects (machine_of c.args.self.now []) (string_bytes c.in-Two.first) (string_bytes c.in-Two.second) _ _ _ _ c.as_str-in-Two.ensures.value c.as_str-in-Two-2.ensures.value
      (ap (option_map (λ (z : ObjectSeen). z.state)) (sym c.in-Some-get.ensures.value)) (ap (option_map (λ (z : ObjectSeen). z.state)) (sym c.in-Some-get-2.ensures.value));
  made = c.build_two.ensures.made;
  unbuilt = c.build_two.ensures.unbuilt;
})

pub returns-in-Some-clause-fitting : goal.returns-in-Some-clause-fitting
returns-in-Some-clause-fitting c = rw c.of_built.ensures (still_made c.build_one.result _ c.build_one.ensures.fitting)
