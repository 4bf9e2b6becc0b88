-- How a run ends, by its answer and what the sink took.
use Rattle.std.proofs.Common.{◌≡◌, ℕ, Bool, Some, None, List, refl, sym, subst}
use Rattle.std.specs.Prelude.{Option}
use Rattle.pm_store.specs.Outside.{StaysTold}
use Rattle.pm_check.specs.Words.{Asked}
use Rattle.pm_check.specs.Ends.{Answers, Ended, IsBadAsked, Told, World, status_of}
use Rattle.pm_check.specs.declared.status.NoAnswer.{NoAnswer}
use Rattle.pm_check.specs.declared.status.NoAnswer.TheVariants as why
use Rattle.pm_check.specs.declared.status.Status.{Status}
use Rattle.pm_check.specs.declared.status.Status.TheVariants.{Right, Wrong, BadWords, SourceFault, SinkFault, OutOfMemory, BadBook}

pub ended_told : (asked : Option Asked) (w : World) (line : List ℕ) (right : Bool) (status : Status) → Answers asked w.given w.files line right → Told w.had w.has line right status → Ended asked status w
ended_told asked w line right Right a t = (line, subst (Answers asked w.given w.files line) t.0 a, t.1)
ended_told asked w line right Wrong a t = (line, subst (Answers asked w.given w.files line) t.0 a, t.1)
ended_told asked w line right SinkFault a t = (line, right, a, t)
ended_told asked w line right BadWords a t = absurd t
ended_told asked w line right SourceFault a t = absurd t
ended_told asked w line right OutOfMemory a t = absurd t
ended_told asked w line right BadBook a t = absurd t

stays_same : (o : Option (List ℕ)) → StaysTold o o
stays_same None = tt
stays_same (Some x) = refl

pub ended_why : (asked : Option Asked) (w : World) (e : NoAnswer) → (e ≡ why.BadWords → IsBadAsked asked w.files) → w.has ≡ w.had → Ended asked (status_of e) w
ended_why asked w why.BadWords bad same = (bad refl, subst (λ o. StaysTold w.had o) (sym same) (stays_same w.had))
ended_why asked w why.SourceFault bad same = subst (λ o. StaysTold w.had o) (sym same) (stays_same w.had)
ended_why asked w why.Memory bad same = subst (λ o. StaysTold w.had o) (sym same) (stays_same w.had)
ended_why asked w why.BadBook bad same = subst (λ o. StaysTold w.had o) (sym same) (stays_same w.had)
