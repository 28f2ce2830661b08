-- Compares an input of a supplier in the tables of all with the same input in its own rows alone.
use Rattle.std.proofs.Common.{◌≡◌, ◌≢◌, ℕ, true, false, if◌then◌else◌, List, [], ◌∷◌, Option, Some, None, refl, sym, ◌∙◌, ap}
use Rattle.gs1_ids.specs.Overlap.{PrefixFree}
use Rattle.hub_parties.specs.Rows.{Parties, company_prefixes, supplier_row}
use Rattle.hub_parties.specs.declared.row.SupplierRow.{SupplierRow}
use Rattle.hub_tables.specs.Rows.{same}
use Rattle.hub_tables.specs.State.{entry_at}
use Rattle.hub_tables.specs.Tables.{Tables, view}
use Rattle.hub_tables.specs.declared.rows.MailRow.{MailRow}
use Rattle.hub_tables.proofs.Lists.{same_if}
use Rattle.hub_rules.specs.Sound.{Sound}
use Rattle.hub_rules.proofs.Prefixes.{gln_found}
use Rattle.hub_law.specs.Mark.{Mark, Whole, StoppedEmpty, StoppedBare, StoppedAfter, replied}
use Rattle.hub_law.specs.Messages.{deliver_suppliers}
use Rattle.hub_law.specs.Opening.{Opened}
use Rattle.hub_law.specs.Replies.{denied, stopped, reply}
use Rattle.hub_law.specs.Requests.{looked_at, upload_reply, uploaded, from_supplier, taken, supplier_request}
use Rattle.hub_law.specs.Told.{Act, in_row}
use Rattle.hub_requests.specs.declared.reply.Outcome.TheVariants.{Stopped}
use Rattle.hub_requests.specs.declared.request.Input.{Input}
use Rattle.hub_requests.specs.declared.request.Request.{Request}
use Rattle.hub_requests.specs.declared.request.Request.TheVariants as requests
use Rattle.hub_law.specs.Alone.{supplier_step}
use Rattle.hub_law.proofs.Acting.{Alike, parties_same, parties_on}
use Rattle.hub_law.proofs.Acts.{suppliers_act, taking_act}

-- a GLN other than the named one belongs to another supplier
pub unlike : (suppliers : List SupplierRow) (gln : List ℕ) (w : SupplierRow) (other : List ℕ)
    → supplier_row suppliers gln ≡ Some w
    → same gln other ≡ false
    → other ≢ w.gln
unlike suppliers gln w other known e i = let matches = same_if gln other (sym (i ∙ gln_found suppliers gln w known)) in (cc)

module _ (suppliers : List SupplierRow) (s : SupplierRow) where
  -- nothing is done
  idle : {A : Type 0} (t : Tables) → Sound suppliers t → (a : A) → Alike suppliers s t (a, t) (a, view s.gln t)
  idle t sound a = record {
    told = refl;
    apart = record { seen = refl; unseen = λ other ne. refl; parties = parties_same t; sound = sound };
  }

  -- acts that do the same one by one also do the same one after another
  row_alike : {X : Type 0} (shared own : X → Act)
      → ((x : X) (t : Tables) → Sound suppliers t → Alike suppliers s t (shared x t) (own x (view s.gln t)))
      → (xs : List X) (t : Tables) → Sound suppliers t → Alike suppliers s t (in_row shared xs t) (in_row own xs (view s.gln t))
  row_alike shared own each [] t sound = idle t sound []
  row_alike shared own each (x ∷ xs) t sound =
      let one = each x t sound in
      let rest = row_alike shared own each xs (shared x t).1 one.apart.sound in
      record {
        told = λ i. one.told i ∷ (rest.told ∙ ap (λ state. (in_row own xs state).0) one.apart.seen) i;
        apart = record {
          seen = rest.apart.seen ∙ ap (λ state. (in_row own xs state).1) one.apart.seen;
          unseen = λ other ne. rest.apart.unseen other ne ∙ one.apart.unseen other ne;
          parties = parties_on t (shared x t).1 (in_row shared (x ∷ xs) t).1 one.apart.parties rest.apart.parties;
          sound = rest.apart.sound;
        };
      }

module _ (suppliers : List SupplierRow) (free : PrefixFree (company_prefixes suppliers)) (parties : Parties)
    (s : SupplierRow) (known : supplier_row suppliers s.gln ≡ Some s) where
  uploaded_alike : (moment : ℕ) (mark : Mark) (upload : Opened) (t : Tables) → Sound suppliers t
      → Alike suppliers s t (uploaded (deliver_suppliers (view s.gln) parties s) moment mark upload t)
      (uploaded (deliver_suppliers (λ rows. rows) parties s) moment mark upload (view s.gln t))
  uploaded_alike moment mark upload t sound =
      let all = row_alike suppliers s (deliver_suppliers (view s.gln) parties s)
      (deliver_suppliers (λ rows. rows) parties s) (suppliers_act suppliers free parties s known)
      (looked_at moment mark upload) t sound in
      record { told = ap (upload_reply mark upload) all.told; apart = all.apart }

  taken_alike : (mark : Mark) (number : ℕ) (found : Option MailRow) (t : Tables)
      → Sound suppliers t
      → entry_at (view s.gln t) number ≡ found
      → Alike suppliers s t (taken mark found t) (taken mark found (view s.gln t))
  taken_alike mark number None t sound h = idle suppliers s t sound _
  taken_alike Whole number (Some entry) t sound h =
      record { told = refl; apart = taking_act suppliers free parties s known number entry t sound h }
  taken_alike StoppedEmpty number (Some entry) t sound h = idle suppliers s t sound (reply Stopped [])
  taken_alike StoppedBare number (Some entry) t sound h = idle suppliers s t sound stopped
  taken_alike (StoppedAfter k) number (Some entry) t sound h = idle suppliers s t sound stopped

  request_alike : (moment : ℕ) (mark : Mark) (request : Request) (t : Tables) → Sound suppliers t
      → Alike suppliers s t (supplier_request (view s.gln) parties s moment mark request t)
      (supplier_request (λ rows. rows) parties s moment mark request (view s.gln t))
  request_alike moment mark (requests.Upload bytes) t sound = uploaded_alike moment mark (from_supplier parties s bytes) t sound
  request_alike moment mark (requests.MailAfter number) t sound = idle suppliers s t sound _
  request_alike moment mark (requests.MailItem number) t sound = idle suppliers s t sound _
  request_alike moment mark (requests.MailTaken number) t sound = taken_alike mark number (entry_at (view s.gln t) number) t sound refl
  request_alike moment mark requests.Status t sound = idle suppliers s t sound _
  request_alike moment mark (requests.StatusOf gln) t sound = idle suppliers s t sound _
  request_alike moment mark (requests.Cancel c) t sound = idle suppliers s t sound _
  request_alike moment mark (requests.Join row) t sound = idle suppliers s t sound _

  pub supplier_alike : (input : Input) (mark : Mark) (t : Tables) → Sound suppliers t
      → Alike suppliers s t (supplier_step (view s.gln) parties s input mark t)
      (supplier_step (λ rows. rows) parties s input mark (view s.gln t))
  supplier_alike input mark t sound =
      elim (same s.key input.key) as (λ v. Alike suppliers s t
      (if v then supplier_request (view s.gln) parties s input.moment mark input.request t else replied mark denied t)
      (if v
      then supplier_request (λ rows. rows) parties s input.moment mark input.request (view s.gln t)
      else replied mark denied (view s.gln t))) [
        | true ↦ request_alike input.moment mark input.request t sound
        | false ↦ idle suppliers s t sound _
      ]
