-- Proves what a caller may do.
use Rattle.std.proofs.Common.{◌≡◌, ℕ, List, [], Some, Result, Ok, Err, sym, ap, subst, ◌∙◌}
use Rattle.hub_parties.specs.Rows.{RegisterRows, row_of}
use Rattle.hub_parties.specs.declared.role.Role.TheVariants as roles
use Rattle.hub_rules.proofs.Prefixes.{gln_found}
use Rattle.hub_rules.specs.Laws.{SoundUnder, PartiesRise}
use Rattle.hub_tables.specs.Register.{register_of}
use Rattle.hub_tables.specs.Tables.{Tables, view}
use Rattle.hub_store.specs.declared.fault.StoreFault.{StoreFault}
use Rattle.hub_store.specs.declared.store.Store.{Ghosts}
use Rattle.hub_tables.specs.Sets.{Rising}
use Rattle.hub_law.proofs.Agreeing.{sound_rises}
use Rattle.hub_law.specs.Machine.{step_under, step_as}
use Rattle.hub_law.specs.Mark.{Mark}
use Rattle.hub_law.specs.Opening.{Opened, interchange_in}
use Rattle.hub_law.specs.Requests.{uploaded}
use Rattle.hub_law.specs.Stops.{upload_of, upload_by, opened_for}
use Rattle.hub_requests.specs.declared.reply.Reply.{Reply}
use Rattle.hub_requests.specs.declared.request.Input.{Input}
use Rattle.hub_requests.specs.declared.request.Request.TheVariants.{Upload}
use Rattle.hub_transactions.specs.Acts.{Carried, Unharmed}
use Rattle.hub_transactions.proofs.LookUps.{none_kept}
use Rattle.hub_core.specs.Callers.{delivered, addressed_by, KeepsFor, MayDeliver, acts_by, request_of}
use Rattle.hub_core.specs.Steps.{Does, AnsweredOrUndone, SoundWith, acts_of}
use Rattle.hub_register.specs.Caller.{IsCaller}
use Rattle.hub_register.specs.declared.caller.Caller.{Caller}
use Rattle.hub_register.specs.declared.caller.Caller.TheVariants.{Retailer, Supplier}

-- after a message, its caller may send another
pub holds_after :
    {S X Y : Type 0} (holds : Tables → Type 0) (g : Ghosts S)
    (old new : S)
    (act : Tables → Y × Tables) (seen : X → Y) (result : Result X StoreFault)
    → Carried g old new act seen result
    → Unharmed g old new result
    → g.honest new → holds (g.content old) → holds (act (g.content old)).1 → holds (g.content new)
holds_after holds g old new act seen (Ok x) carried unharmed h before after =
    subst holds (ap (λ r. r.1) (carried.done h)) after
holds_after holds g old new act seen (Err fault) carried unharmed h before after =
    subst holds (sym (unharmed.same h)) before

-- at first no order is kept
pub none_kept_for : (caller : Caller) (t : Tables) → KeepsFor caller [] t
none_kept_for Retailer t = tt
none_kept_for (Supplier s) t = none_kept (view s.now.gln t)

-- an upload of bytes, by what opening them gave
pub opened_asked : {S : Type 0} (g : Ghosts S) (old new : S)
    (register : RegisterRows) (caller : Caller) (moment : ℕ) (bytes : List ℕ) (upload : Opened) (result : Result Reply StoreFault)
    → interchange_in bytes ≡ upload
    → (MayDeliver register caller (g.content old)
    → AnsweredOrUndone g old new (acts_of (opened_for (delivered register caller) (addressed_by register caller upload)))
    (λ mark t. uploaded (delivered register caller) moment mark (addressed_by register caller upload) t) result)
    → MayDeliver register caller (g.content old)
    → AnsweredOrUndone g old new (acts_by register caller (Upload bytes)) (request_of register caller moment (Upload bytes)) result
opened_asked g old new register Retailer moment bytes upload result is asked may =
    subst (λ (opened : Opened). AnsweredOrUndone g old new
    (acts_of (opened_for (delivered register Retailer) (addressed_by register Retailer opened)))
    (λ mark t. uploaded (delivered register Retailer) moment mark (addressed_by register Retailer opened) t) result) (sym is) (asked may)
opened_asked g old new register (Supplier s) moment bytes upload result is asked may =
    subst (λ (opened : Opened). AnsweredOrUndone g old new
    (acts_of (opened_for (delivered register (Supplier s)) (addressed_by register (Supplier s) opened)))
    (λ mark t. uploaded (delivered register (Supplier s)) moment mark (addressed_by register (Supplier s) opened) t) result) (sym is)
    (asked may)

pub parties_rise : (t : Tables) → Rising t → PartiesRise t
parties_rise t rising = record { hubs = rising.hubs; keys = rising.keys; prefixes = rising.prefixes }

-- what one act needs of the tables
pub delivers : (register : RegisterRows) (t : Tables) → SoundWith register t → SoundUnder register.suppliers t × PartiesRise t
delivers register t here =
    let under : SoundUnder (register_of t).suppliers t =
    record { free = here.sound.register.right.prefixes_free; sound = here.sound.sound } in (
      subst (λ (r : RegisterRows). SoundUnder r.suppliers t) (sym here.held) under,
      parties_rise t (sound_rises t here.sound),
    )

module _ (register : RegisterRows) (input : Input) where
  abbrev pub KnownCaller : Caller → Type 0
  KnownCaller caller = IsCaller register input.caller input.key caller

  pub may : (t : Tables) (caller : Caller) → KnownCaller caller → SoundWith register t → MayDeliver register caller t
  may t Retailer known here = delivers register t here
  may t (Supplier s) known here =
      let deliver = delivers register t here in (
        record {
          free = deliver.0.free;
          known = ap (row_of register) (gln_found register.suppliers input.caller s.now known.1) ∙ known.1;
          sound = deliver.0.sound;
        },
        deliver.1,
      )

  pub step_is : (caller : Caller)
      → KnownCaller caller
      → (mark : Mark) (t : Tables)
      → request_of register caller input.moment input.request mark t ≡ step_under register t input mark
  step_is Retailer known mark t = sym (ap (λ role. step_as register role (row_of register input.caller) input mark t) known)
  step_is (Supplier s) known mark t =
      sym (ap (λ role. step_as register role (row_of register input.caller) input mark t) known.0
      ∙ ap (λ row. step_as register (Some roles.Supplier) row input mark t) known.1)

  acts_are : (caller : Caller) → KnownCaller caller → acts_by register caller input.request ≡ acts_of (upload_of register input)
  acts_are Retailer known = sym (ap (λ role. acts_of (upload_by register role (row_of register input.caller) input.request)) known)
  acts_are (Supplier s) known =
      sym (ap (λ role. acts_of (upload_by register role (row_of register input.caller) input.request)) known.0
      ∙ ap (λ row. acts_of (upload_by register (Some roles.Supplier) row input.request)) known.1)

  pub asked_as : {S : Type 0} (g : Ghosts S) (old new : S)
      (caller : Caller) (result : Result Reply StoreFault)
      → KnownCaller caller
      → (MayDeliver register caller (g.content old)
      → AnsweredOrUndone g old new (acts_by register caller input.request)
      (request_of register caller input.moment input.request) result)
      → SoundWith register (g.content old)
      → AnsweredOrUndone g old new (acts_of (upload_of register input))
      (λ mark t. step_under register t input mark) result
  asked_as g old new caller result known asked hub =
      subst (λ (does : Does). AnsweredOrUndone g old new (acts_of (upload_of register input)) does result)
      (λ i mark t. step_is caller known mark t i)
      (subst
      (λ count. AnsweredOrUndone g old new count (request_of register caller input.moment input.request) result)
      (acts_are caller known) (asked (may (g.content old) caller known hub)))
