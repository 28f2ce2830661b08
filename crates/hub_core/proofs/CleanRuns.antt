-- Proves that a step and a run keep the form of all rows.
use Rattle.std.proofs.Common.{◌≡◌, true, List, [], ◌∷◌, map, sym, subst}
use Rattle.std.specs.List.{AllByRecursion}
use Rattle.hub_tables.specs.Tables.{Tables}
use Rattle.hub_store.specs.Clean.{are_clean}
use Rattle.hub_rules.specs.Laws.{SoundHub}
use Rattle.hub_requests.specs.declared.reply.Reply.{Reply}
use Rattle.hub_requests.specs.declared.request.Input.{Input}
use Rattle.hub_law.specs.Machine.{Inputs}
use Rattle.hub_law.specs.Mark.{Mark}
use Rattle.hub_transactions.specs.Clean.{WithinInput}
use Rattle.hub_transactions.proofs.CleanSteps.{step_clean, run_clean}
use Rattle.hub_core.specs.Steps.{Stepped, RunAndCrash}

pub stepped_clean : (t after : Tables) (before left : Tables → Type 0) (input : Input) (reply : Reply)
    → Stepped t after before left input reply
    → SoundHub t
    → are_clean t ≡ true
    → WithinInput input
    → are_clean after ≡ true
stepped_clean t after before left input reply step here clean within =
    subst (λ (done : Reply × Tables). are_clean done.1 ≡ true) step.is (step_clean t input step.mark here clean within)

each_marked : (marked : Inputs)
    → AllByRecursion WithinInput (map (λ (x : Input × Mark). x.0) marked)
    → AllByRecursion (λ (x : Input × Mark). WithinInput x.0) marked
each_marked [] all = tt
each_marked (x ∷ marked) all = (all.0, each_marked marked all.1)

pub ran_clean : (t after : Tables) (before left : Tables → Type 0) (inputs : List Input) (replies : List Reply)
    → RunAndCrash t after before left inputs replies
    → SoundHub t
    → are_clean t ≡ true
    → AllByRecursion WithinInput inputs
    → are_clean after ≡ true
ran_clean t after before left inputs replies ran here clean all =
    let run = ran.run in
    subst (λ (done : List Reply × Tables). are_clean done.1 ≡ true) run.is
    (run_clean run.marked t here clean (each_marked run.marked (subst (AllByRecursion WithinInput) (sym run.are) all)))
