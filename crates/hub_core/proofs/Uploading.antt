-- Proves that an upload, whatever was opened, leaves tables as sound as before, with the register that they held.
use Rattle.std.proofs.Common.{◌≡◌, ℕ, List, [], ◌∷◌, Result, Ok, Err, sym, ap, subst, ◌∙◌}
use Rattle.edi_envelope.specs.declared.interchange.RawMessage.{RawMessage}
use Rattle.hub_parties.specs.Rows.{RegisterRows, parties_of}
use Rattle.hub_parties.specs.declared.row.SupplierRow.{SupplierRow}
use Rattle.hub_tables.specs.Register.{suppliers_of}
use Rattle.hub_tables.specs.Tables.{Tables, view}
use Rattle.hub_store.specs.declared.fault.StoreFault.{StoreFault}
use Rattle.hub_store.specs.declared.store.Store.{Ghosts}
use Rattle.hub_rules.specs.Laws.{SoundUnder, Registered, PartiesRise, PartiesStay}
use Rattle.hub_rules.specs.Sound.{Sound}
use Rattle.hub_rules.specs.declared.incoming.IncomingMessage.{IncomingMessage}
use Rattle.hub_law.specs.Laws.{StaySound}
use Rattle.hub_law.specs.Mark.{Mark}
use Rattle.hub_law.specs.Messages.{deliver_suppliers}
use Rattle.hub_law.specs.Opening.{Opened}
use Rattle.hub_law.specs.Told.{in_row}
use Rattle.hub_law.specs.Requests.{deliver_named, looked_at, uploaded}
use Rattle.hub_law.proofs.Acting.{parties_on, parties_same, register_same, suppliers_same}
use Rattle.hub_law.proofs.Going.{holds_on}
use Rattle.hub_requests.specs.declared.reply.Reply.{Reply}
use Rattle.hub_core.specs.Callers.{delivered, MayDeliver}
use Rattle.hub_core.specs.Steps.{AnsweredOrUndone, SoundWith}
use Rattle.hub_register.specs.declared.caller.Caller.{Caller}
use Rattle.hub_register.specs.declared.caller.Caller.TheVariants.{Retailer, Supplier}
use Rattle.hub_core.proofs.Callers.{parties_rise}

-- what each act leaves
pub record ActsStay : Type 0 where
  pub of_suppliers :
      (register : RegisterRows) (s : SupplierRow) (message : RawMessage) (incoming : IncomingMessage) (t : Tables)
      → Registered register.suppliers s t → PartiesRise t
      → StaySound register.suppliers (deliver_suppliers (view s.gln) (parties_of register) s (message, incoming) t).1
  pub of_retailers :
      (register : RegisterRows) (message : RawMessage) (incoming : IncomingMessage) (t : Tables)
      → SoundUnder register.suppliers t → PartiesRise t
      → StaySound register.suppliers (deliver_named register (message, incoming) t).1
  pub suppliers_keep :
      (register : RegisterRows) (s : SupplierRow) (message : RawMessage) (incoming : IncomingMessage) (t : Tables)
      → Registered register.suppliers s t
      → PartiesStay t (deliver_suppliers (view s.gln) (parties_of register) s (message, incoming) t).1
  pub retailers_keep :
      (register : RegisterRows) (message : RawMessage) (incoming : IncomingMessage) (t : Tables)
      → SoundUnder register.suppliers t → PartiesStay t (deliver_named register (message, incoming) t).1

-- another message may follow, under the same register
record UploadGoesOn (register : RegisterRows) (caller : Caller) (start t : Tables) : Type 0 where
  may : MayDeliver register caller t
  parties : PartiesStay start t

module _ (laws : ActsStay) (register : RegisterRows) (start : Tables) where
  act_goes : (caller : Caller) (sent : RawMessage × IncomingMessage) (t : Tables)
      → UploadGoesOn register caller start t → UploadGoesOn register caller start (delivered register caller sent t).1
  act_goes Retailer (message, incoming) t here =
      let after = laws.of_retailers register message incoming t here.may.0 here.may.1 in
      record {
        may = (record { free = here.may.0.free; sound = after.sound }, parties_rise _ after.rising);
        parties = parties_on start t _ here.parties (laws.retailers_keep register message incoming t here.may.0);
      }
  act_goes (Supplier s) (message, incoming) t here =
      let after = laws.of_suppliers register s.now message incoming t here.may.0 here.may.1 in
      record {
        may = (record { free = here.may.0.free; known = here.may.0.known; sound = after.sound }, parties_rise _ after.rising);
        parties = parties_on start t _ here.parties (laws.suppliers_keep register s.now message incoming t here.may.0);
      }

  acts_go : (caller : Caller) (sents : List (RawMessage × IncomingMessage)) (t : Tables)
      → UploadGoesOn register caller start t → UploadGoesOn register caller start (in_row (delivered register caller) sents t).1
  acts_go caller [] t here = here
  acts_go caller (sent ∷ sents) t here =
      acts_go caller sents (delivered register caller sent t).1 (act_goes caller sent t here)

  sound_in : (caller : Caller) (t : Tables) → MayDeliver register caller t → Sound register.suppliers t
  sound_in Retailer t may = may.0.sound
  sound_in (Supplier s) t may = may.0.sound

  -- the tables hold that register, and are sound with it
  sound_again : (caller : Caller) (after : Tables) → SoundWith register start → UploadGoesOn register caller start after
      → SoundWith register after
  sound_again caller after here goes =
      let same = register_same start after goes.parties in
      let theirs : register.suppliers ≡ suppliers_of after =
      ap (λ (r : RegisterRows). r.suppliers) here.held ∙ sym (suppliers_same start after goes.parties) in
      record {
        sound = record {
          register = holds_on start after goes.parties here.sound.register;
          sound = subst (λ suppliers. Sound suppliers after) theirs (sound_in caller after goes.may);
        };
        held = here.held ∙ sym same;
      }

  upload_sound : (caller : Caller) (moment : ℕ) (mark : Mark) (upload : Opened)
      → MayDeliver register caller start → SoundWith register start
      → SoundWith register (uploaded (delivered register caller) moment mark upload start).1
  upload_sound caller moment mark upload may here =
      sound_again caller _ here
      (acts_go caller (looked_at moment mark upload) start (record { may = may; parties = parties_same start }))

-- the same after the call, whether it failed or not
pub opened_sound : {S : Type 0} (g : Ghosts S) (old new : S)
    → ActsStay → (register : RegisterRows) (caller : Caller) (moment : ℕ) (upload : Opened) (count : ℕ)
    (result : Result Reply StoreFault)
    → MayDeliver register caller (g.content old)
    → AnsweredOrUndone g old new count (λ mark t. uploaded (delivered register caller) moment mark upload t) result
    → g.honest new → SoundWith register (g.content old) → SoundWith register (g.content new)
opened_sound g old new laws register caller moment upload count (Ok reply) may asked clean here =
    let answered = asked.answered clean in
    subst (SoundWith register) (ap (λ (x : Reply × Tables). x.1) answered.is)
    (upload_sound laws register (g.content old) caller moment answered.mark upload may here)
opened_sound g old new laws register caller moment upload count (Err fault) may asked clean here =
    subst (SoundWith register) (sym (asked.undone clean).same) here
