-- Shows what happens when something that was accepted in a run is sent again later in it.
use Rattle.std.proofs.Common.{◌≡◌, ℕ, zero, suc, ◌+◌, ◌<◌, ◌≤◌, min, nat_lt, Bool, true, false, ◌&&◌, if◌then◌else◌, List}
use Rattle.std.proofs.Common.{[], ◌∷◌, ◌++◌, length, map, slice_get, take, Option, Some, None, refl, sym, ◌∙◌, ap, subst}
use Rattle.std.proofs.Common.{arith, get_or, option_map}
use Rattle.std.proofs.lemmas.Bool.{true≢false}
use Rattle.std.proofs.lemmas.Bool.Decides.{nat_tests}
use Rattle.std.proofs.lemmas.List.{length-take}
use Rattle.std.proofs.lemmas.Option.{slice_get_within, slice_get-map}
use Rattle.std.proofs.Math.Seq.{take-length}
use Rattle.edi_envelope.specs.declared.interchange.RawMessage.{RawMessage}
use Rattle.gs1_ids.specs.Overlap.{PrefixFree}
use Rattle.hub_parties.specs.Rows.{Parties, RegisterRows, parties_of, company_prefixes, supplier_row, row_of, role_by}
use Rattle.hub_parties.specs.declared.role.Role.TheVariants.{Retailer, Supplier}
use Rattle.hub_parties.specs.declared.row.SupplierRow.{SupplierRow}
use Rattle.hub_tables.specs.Register.{suppliers_of, register_of, parties_in, row_at}
use Rattle.hub_tables.specs.Rows.{same}
use Rattle.hub_tables.specs.Sets.{Has}
use Rattle.hub_tables.specs.Tables.{Tables, view}
use Rattle.hub_rules.specs.declared.incoming.IncomingMessage.{IncomingMessage}
use Rattle.hub_rules.specs.Laws.{SoundHub}
use Rattle.hub_rules.specs.Sound.{Sound}
use Rattle.hub_rules.specs.declared.cancel.Cancel.{Cancel}
use Rattle.hub_rules.proofs.Prefixes.{gln_found}
use Rattle.hub_law.specs.Again.{MessageAt, AsksCancel, Reaches, SameReference, tables_before, told_at}
use Rattle.hub_law.specs.Machine.{Inputs, step_under, shared_step, shared_run, step_as}
use Rattle.hub_law.specs.Mark.{Mark, Whole, StoppedEmpty, StoppedBare, StoppedAfter}
use Rattle.hub_law.specs.Messages.{incoming, messages_at, named, deliver_retailers, deliver_suppliers, cancel}
use Rattle.hub_law.specs.Opening.{Opened}
use Rattle.hub_law.specs.Remembered.{StaysRemembered, row_of_message, row_of_cancel}
use Rattle.hub_law.specs.Replies.{act_reply}
use Rattle.hub_law.specs.Requests.{deliver_named, cancel_named, from_supplier, from_retailer, retailer_request}
use Rattle.hub_law.specs.Stops.{Upload, upload_from, upload_by, upload_of}
use Rattle.hub_law.specs.Told.{Told, Accepted, Repeated, Refused, Act, in_row}
use Rattle.hub_requests.specs.declared.reply.Reply.{Reply}
use Rattle.hub_requests.specs.declared.request.Input.{Input}
use Rattle.hub_requests.specs.declared.request.Request.{Request}
use Rattle.hub_requests.specs.declared.request.Request.TheVariants as requests
use Rattle.hub_law.proofs.Acts.{suppliers_act}
use Rattle.hub_law.proofs.Cutting.{well_opened, whole_upload, behind_some}
use Rattle.hub_law.proofs.Remembering.{named_remembered, suppliers_remembered, cancellation_remembered}
use Rattle.hub_law.proofs.Repeated.{named_repeated, suppliers_repeated, cancellation_repeated, nobody_accepted}
use Rattle.hub_law.proofs.Callers.{is_retailers, retailer_asks}
use Rattle.hub_law.proofs.Going.{KeepsSuppliers, run_goes, parties_stay, retailer_has_no_row}
use Rattle.hub_law.proofs.Retailers.{message_stays}
use Rattle.hub_law.proofs.Staying.{all_retailers_stay, all_suppliers_stay, run_stays}

-- Acts one after another, and the result of the one at a position.
module _ {X : Type 0} (step : X → Act) where
  told_there : (xs : List X) (place : ℕ) (x : X) (t : Tables)
      → slice_get xs place ≡ Some x
      → slice_get (in_row step xs t).0 place ≡ Some (step x (in_row step (take place xs) t).1).0
  told_there [] zero x t h = cc
  told_there [] (suc place) x t h = cc
  told_there (y ∷ xs) zero x t h = let same : y ≡ x = cc in ap (λ x. Some (step x t).0) same
  told_there (y ∷ xs) (suc place) x t h = told_there xs place x (step y t).1 h

  behind_it : (xs : List X) (place : ℕ) (x : X) (t : Tables)
      → slice_get xs place ≡ Some x
      → (in_row step (take (suc place) xs) t).1 ≡ (step x (in_row step (take place xs) t).1).1
  behind_it [] zero x t h = cc
  behind_it [] (suc place) x t h = cc
  behind_it (y ∷ xs) zero x t h = let same : y ≡ x = cc in ap (λ x. (step x t).1) same
  behind_it (y ∷ xs) (suc place) x t h = behind_it xs place x (step y t).1 h

  next_there : (xs : List X) (place : ℕ) (x : X) (t : Tables)
      → slice_get xs place ≡ Some x
      → (in_row step (take (place + 1) xs) t).1 ≡ (step x (in_row step (take place xs) t).1).1
  next_there xs place x t h = ap (λ n. (in_row step (take n xs) t).1) (one_more place) ∙ behind_it xs place x t h
    where
      one_more : (n : ℕ) → n + 1 ≡ suc n
      one_more n = omega arith

  -- what more acts leave still remembers
  module _ (stays : (xs : List X) (t : Tables) → StaysRemembered t (in_row step xs t).1) where
    more_stay : (xs : List X) (few many : ℕ) (t : Tables)
        → few ≤ many
        → StaysRemembered (in_row step (take few xs) t).1 (in_row step (take many xs) t).1
    more_stay xs zero many t less = stays (take many xs) t
    more_stay [] (suc few) many t less =
        λ row there. subst (λ (rest : List X). Has (in_row step rest t).1.remembered row) (sym (take_none many)) there
      where
        take_none : (n : ℕ) → ◌≡◌ {A = List X} (take n []) []
        take_none zero = refl
        take_none (suc n) = refl
    more_stay (x ∷ xs) (suc few) zero t less = absurd (omega arith)
    more_stay (x ∷ xs) (suc few) (suc many) t less = more_stay xs few many (step x t).1 (omega arith)

  row_sound : (P : Tables → Type 0)
      → ((x : X) (t : Tables) → P t → P (step x t).1)
      → (xs : List X) (t : Tables)
      → P t
      → P (in_row step xs t).1
  row_sound P f [] t p = p
  row_sound P f (x ∷ xs) t p = row_sound P f xs (step x t).1 (f x t p)

-- mapping keeps positions
at_place : {X Y : Type 0} (f : X → Y) (xs : List X) (place : ℕ) (x : X)
    → slice_get xs place ≡ Some x
    → slice_get (map f xs) place ≡ Some (f x)
at_place f xs place x there = slice_get-map f xs place ∙ ap (option_map f) there

pub run_of_both : (t : Tables) (before later : Inputs)
    → (shared_run t (before ++ later)).1 ≡ (shared_run (shared_run t before).1 later).1
run_of_both t [] later = refl
run_of_both t ((input, mark) ∷ before) later = run_of_both (shared_step t input mark).1 before later

-- the act for a row, or for none
abbrev act_at : RegisterRows → Option SupplierRow → RawMessage × IncomingMessage → Act
act_at register (Some s) = deliver_suppliers (view s.gln) (parties_of register) s
act_at register None = deliver_named register

act_kept : (opening : List ℕ → Opened) (act : RawMessage × IncomingMessage → Act) (request : Request) (upload : Upload)
    → upload_from opening act request ≡ Some upload
    → upload.act ≡ act
act_kept opening act (requests.Upload bytes) upload h = (well_opened act (opening bytes) upload h).1
act_kept opening act (requests.MailAfter number) upload h = cc
act_kept opening act (requests.MailItem number) upload h = cc
act_kept opening act (requests.MailTaken number) upload h = cc
act_kept opening act requests.Status upload h = cc
act_kept opening act (requests.StatusOf gln) upload h = cc
act_kept opening act (requests.Cancel c) upload h = cc
act_kept opening act (requests.Join row) upload h = cc

module _ (register : RegisterRows) where
  act_by_row : (input : Input) (upload : Upload) (o : Option SupplierRow)
      → upload_by register (role_by register o input.caller input.key) o input.request ≡ Some upload
      → upload.act ≡ act_at register o
  act_by_row input upload (Some s) =
      elim (same s.key input.key) as (λ v. upload_by register (if v then Some Supplier else None) (Some s) input.request ≡ Some upload
      → upload.act ≡ act_at register (Some s)) [
        | true ↦
            λ h. act_kept (from_supplier (parties_of register) s) (deliver_suppliers (view s.gln) (parties_of register) s)
            input.request upload h
        | false ↦ λ h. cc
      ]
  act_by_row input upload None =
      elim (same register.retailer input.caller && same register.retailer_key input.key) as (λ v. upload_by register (if v
      then Some Retailer
      else None) None input.request
      ≡ Some upload
      → upload.act ≡ act_at register None) [
        | true ↦ λ h. act_kept (from_retailer (parties_of register)) (deliver_named register) input.request upload h
        | false ↦ λ h. cc
      ]

  act_is : (input : Input) (upload : Upload)
      → upload_of register input ≡ Some upload
      → upload.act ≡ act_at register (row_of register input.caller)
  act_is input upload h = act_by_row input upload (row_of register input.caller) h

  acts_stay : (o : Option SupplierRow) (sents : List (RawMessage × IncomingMessage)) (t : Tables)
      → StaysRemembered t (in_row (act_at register o) sents t).1
  acts_stay (Some s) sents t = all_suppliers_stay (view s.gln) (parties_of register) s sents t
  acts_stay None sents t = all_retailers_stay register sents t

  module _ (free : PrefixFree (company_prefixes register.suppliers)) where
    act_sound : (gln : List ℕ) (o : Option SupplierRow)
        → row_of register gln ≡ o
        → (sent : RawMessage × IncomingMessage) (t : Tables)
        → Sound register.suppliers t
        → Sound register.suppliers (act_at register o sent t).1
    act_sound gln (Some s) known sent t sound =
        (suppliers_act register.suppliers free (parties_of register) s
        (ap (supplier_row register.suppliers) (gln_found register.suppliers gln s known) ∙ known) sent t sound).apart.sound
    act_sound gln None known sent t sound = (message_stays register free sent t sound).sound

  -- if the caller has no row and its upload is handled, it is the retailer
  sent_by_retailer : (input : Input) (upload : Upload)
      → upload_of register input ≡ Some upload
      → row_of register input.caller ≡ None
      → register.retailer ≡ input.caller
  sent_by_retailer input upload h none =
      by_test (is_retailers register input) refl
      (sym (ap (λ o. upload_by register (role_by register o input.caller input.key) o input.request) none) ∙ h)
    where
      by_test : (v : Bool)
          → is_retailers register input ≡ v
          → upload_by register (if is_retailers register input then Some Retailer else None) None input.request ≡ Some upload
          → register.retailer ≡ input.caller
      by_test true e asked = retailer_asks register input e
      by_test false e asked =
          let none : upload_by register (if false then Some Retailer else None) None input.request ≡ Some upload =
          ap (λ v. upload_by register (if v then Some Retailer else None) None input.request) (sym e) ∙ asked in
          cc

-- Two registers of one hub; the later one has every supplier of the first.
module _ (one later : RegisterRows) (parties : parties_of later ≡ parties_of one)
    (stays : (gln : List ℕ) (s : SupplierRow) → row_of one gln ≡ Some s → row_of later gln ≡ Some s) where
  -- a message that names a supplier of the first register gets the same decision under the later one
  named_alike : (message : RawMessage) (incoming : IncomingMessage) (u : Tables) (w : SupplierRow)
      → row_of one (named message) ≡ Some w
      → deliver_named later (message, incoming) u ≡ deliver_named one (message, incoming) u
  named_alike message incoming u w known =
      let row : row_of later (named message) ≡ row_of one (named message) = stays (named message) w known ∙ sym known in
      λ i. deliver_retailers (view (named message)) (parties i) (row i) (message, incoming) u

  act_again : (o : Option SupplierRow) (message : RawMessage) (first second : IncomingMessage) (t u : Tables)
      → record first { moment = second.moment; decimal = second.decimal } ≡ second
      → (act_at one o (message, first) t).0 ≡ Accepted
      → StaysRemembered (act_at one o (message, first) t).1 u
      → Sound later.suppliers u
      → act_at later o (message, second) u ≡ (Repeated, u)
  act_again o message first second t u same_again told still sound =
      subst (λ (again : IncomingMessage). act_at later o (message, again) u ≡ (Repeated, u)) same_again (by_row o told still)
    where
      by_name : (row : Option SupplierRow)
          → row_of one (named message) ≡ row
          → (deliver_named one (message, first) t).0 ≡ Accepted
          → StaysRemembered (deliver_named one (message, first) t).1 u
          → deliver_named later (message, record first { moment = second.moment; decimal = second.decimal }) u ≡ (Repeated, u)
      by_name None none told still = absurd (nobody_accepted (view (named message)) (parties_of one) (message, first) t
          (ap (λ row. (deliver_retailers (view (named message)) (parties_of one) row (message, first) t).0) (sym none) ∙ told))
      by_name (Some w) known told still =
          named_alike message (record first { moment = second.moment; decimal = second.decimal }) u w known
          ∙ named_repeated later.suppliers one (message, first) second.moment second.decimal t u told still sound

      by_row : (o : Option SupplierRow)
          → (act_at one o (message, first) t).0 ≡ Accepted
          → StaysRemembered (act_at one o (message, first) t).1 u
          → act_at later o (message, record first { moment = second.moment; decimal = second.decimal }) u ≡ (Repeated, u)
      by_row (Some s) told still =
          ap (λ p. deliver_suppliers (view s.gln) p s
          (message, record first { moment = second.moment; decimal = second.decimal }) u) parties
          ∙ suppliers_repeated later.suppliers (parties_of one) s (message, first) second.moment second.decimal t u told still
          sound
      by_row None told still = by_name (row_of one (named message)) refl told still

-- after an upload that reached a position, the tables still remember what they did after the message there
module _ (register : RegisterRows) (t : Tables) (input : Input) (upload : Upload)
    (looked_at : upload_of register input ≡ Some upload) (place : ℕ)
    (stays : (sents : List (RawMessage × IncomingMessage)) (t : Tables) → StaysRemembered t (in_row (upload.act) sents t).1) where
  abbrev sents : List (RawMessage × IncomingMessage)
  sents = messages_at input.moment upload.interchange

  -- the position that is reached comes before the stop, which comes before the end of the upload
  reached_behind : (k : ℕ) (more : Bool)
      → nat_lt k (length upload.interchange.messages) ≡ more
      → place < length (take (if more then k else 0) sents)
      → (place < k) × (k < length upload.interchange.messages)
  reached_behind k true e reaches =
      let most : place < min k (length sents) = subst (λ n. place < n) (length-take k sents) reaches in
      (below_min place k (length sents) most, is_less k (length upload.interchange.messages) e)
    where
      below_min : (a b c : ℕ) → a < min b c → a < b
      below_min a b c h = grind (arith, min)

      is_less : (a b : ℕ) → nat_lt a b ≡ true → a < b
      is_less a b h = grind (arith, nat_tests)
  reached_behind k false e reaches = absurd (omega (arith, reaches))

  reached_stays : (mark : Mark)
      → place < length sents
      → Reaches mark input upload place
      → StaysRemembered (in_row (upload.act) (take (place + 1) sents) t).1 (step_under register t input mark).1
  reached_stays Whole there reaches =
      subst (λ (after : Reply × Tables). StaysRemembered (in_row (upload.act) (take (place + 1) sents) t).1 after.1)
      (sym (whole_upload register t input upload looked_at))
      (subst (λ all. StaysRemembered (in_row (upload.act) (take (place + 1) sents) t).1 (in_row (upload.act) all t).1)
      (take-length sents) (more_stay (upload.act) stays sents (place + 1) (length sents) t (omega (arith, there))))
  reached_stays StoppedEmpty there reaches = absurd (omega (arith, reaches))
  reached_stays StoppedBare there reaches = absurd (omega (arith, reaches))
  reached_stays (StoppedAfter k) there reaches =
      let behind = reached_behind k (nat_lt k (length upload.interchange.messages)) refl reaches in
      subst (λ (after : Reply × Tables). StaysRemembered (in_row (upload.act) (take (place + 1) sents) t).1 after.1)
      (sym (behind_some register t input k upload looked_at behind.1))
      (more_stay (upload.act) stays sents (place + 1) k t (omega (arith, behind.0)))

-- A message at a position of a run.
module _ (t : Tables) (before between : Inputs) (first : Input) (mark : Mark) (place : ℕ) (message : RawMessage)
    (one : MessageAt (shared_run t before).1 first place message) (reaches : Reaches mark first one.upload place) where
  abbrev whole_run : Inputs
  whole_run = before ++ (first, mark) ∷ between

  abbrev at_first : Tables
  at_first = (shared_run t before).1

  abbrev at_second : Tables
  at_second = (shared_run t whole_run).1

  abbrev whose : Option SupplierRow
  whose = row_at first.caller at_first

  abbrev here : Tables
  here = tables_before at_first first one.upload place

  first_act : one.upload.act ≡ act_at (register_of at_first) whose
  first_act = act_is (register_of at_first) first one.upload one.looked_at

  stays_of : (register : RegisterRows) (act : RawMessage × IncomingMessage → Act)
      → act ≡ act_at register whose
      → (sents : List (RawMessage × IncomingMessage)) (u : Tables)
      → StaysRemembered u (in_row act sents u).1
  stays_of register act is =
      subst (λ act. (sents : List (RawMessage × IncomingMessage)) (u : Tables) → StaysRemembered u (in_row act sents u).1)
      (sym is) (acts_stay register whose)

  -- the message as it is sent
  abbrev sent : RawMessage × IncomingMessage
  sent = (message, incoming first.moment one.upload.interchange message)

  first_there : slice_get (messages_at first.moment one.upload.interchange) place ≡ Some sent
  first_there =
      at_place (λ message. (message, incoming first.moment one.upload.interchange message)) one.upload.interchange.messages
      place message one.there

  remembers : StaysRemembered (one.upload.act sent here).1 at_second
  remembers = λ row was.
      let after : Has
      (in_row (one.upload.act) (take (place + 1) (messages_at first.moment one.upload.interchange)) at_first).1.remembered
      row =
      subst (λ (u : Tables). Has u.remembered row)
      (sym (next_there (one.upload.act) (messages_at first.moment one.upload.interchange) place sent at_first first_there))
      was in
      let stepped = reached_stays (register_of at_first) at_first first one.upload one.looked_at place
      (stays_of (register_of at_first) one.upload.act first_act) mark
      (slice_get_within (messages_at first.moment one.upload.interchange) place sent first_there) reaches row after in
      let ran = run_stays (shared_step at_first first mark).1 between row stepped in
      subst (λ (u : Tables). Has u.remembered row) (sym (run_of_both t before ((first, mark) ∷ between))) ran

  -- if it was accepted
  module _ (told : told_at at_first first one.upload place ≡ Some Accepted) where
    accepted : (one.upload.act sent here).0 ≡ Accepted
    accepted =
        let both : Some (one.upload.act sent here).0 ≡ Some Accepted =
        sym (told_there (one.upload.act) (messages_at first.moment one.upload.interchange) place sent at_first first_there)
        ∙ told in
        cc

    -- its row is remembered
    pub row_there : Has at_second.remembered (row_of_message whose message sent.1)
    row_there =
        remembers (row_of_message whose message sent.1)
        (subst (λ act. (act sent here).0 ≡ Accepted → Has (act sent here).1.remembered (row_of_message whose message sent.1))
        (sym first_act) (by_row whose) accepted)
      where
        by_row : (o : Option SupplierRow)
            → (act_at (register_of at_first) o sent here).0 ≡ Accepted
            → Has (act_at (register_of at_first) o sent here).1.remembered (row_of_message o message sent.1)
        by_row (Some s) = suppliers_remembered (parties_in at_first) s message sent.1 here
        by_row None = named_remembered (register_of at_first) message sent.1 here

    -- and if it is sent again
    module _ (second : Input) (later : ℕ) (other : MessageAt at_second second later message) (start : SoundHub at_first)
        (alike : SameReference first second one.upload other.upload) where
      abbrev there : Tables
      there = tables_before at_second second other.upload later

      goes : KeepsSuppliers at_first at_second
      goes = subst (KeepsSuppliers at_first) (sym (run_of_both t before ((first, mark) ∷ between)))
          (run_goes ((first, mark) ∷ between) at_first start)

      -- the caller's row is the same as before
      row_later : row_at first.caller at_second ≡ whose
      row_later = by_row whose refl
        where
          by_row : (o : Option SupplierRow) → whose ≡ o → row_at first.caller at_second ≡ o
          by_row (Some s) known = goes.stays first.caller s known
          by_row None none =
              let retailer : (register_of at_second).retailer ≡ first.caller =
              ap (λ (p : Parties). p.retailer) (parties_stay at_first at_second goes)
              ∙ sent_by_retailer (register_of at_first) first one.upload one.looked_at none in
              ap (supplier_row (suppliers_of at_second)) (sym retailer)
              ∙ retailer_has_no_row (register_of at_second) goes.sound.register.right

      second_act : other.upload.act ≡ act_at (register_of at_second) whose
      second_act =
          act_is (register_of at_second) second other.upload other.looked_at
          ∙ ap (λ caller. act_at (register_of at_second) (row_at caller at_second)) alike.caller
          ∙ ap (act_at (register_of at_second)) row_later

      abbrev again : RawMessage × IncomingMessage
      again = (message, incoming second.moment other.upload.interchange message)

      second_there : slice_get (messages_at second.moment other.upload.interchange) later ≡ Some again
      second_there =
          at_place (λ message. (message, incoming second.moment other.upload.interchange message))
          other.upload.interchange.messages later message other.there

      still_remembers : StaysRemembered (one.upload.act sent here).1 there
      still_remembers = λ row was.
          stays_of (register_of at_second) other.upload.act second_act
          (take later (messages_at second.moment other.upload.interchange)) at_second row (remembers row was)

      sound_there : Sound (suppliers_of at_second) there
      sound_there =
          row_sound (other.upload.act) (Sound (suppliers_of at_second))
          (subst (λ act. (sent : RawMessage × IncomingMessage) (u : Tables)
          → Sound (suppliers_of at_second) u
          → Sound (suppliers_of at_second) (act sent u).1) (sym second_act)
          (act_sound (register_of at_second) goes.sound.register.right.prefixes_free first.caller whose row_later))
          (take later (messages_at second.moment other.upload.interchange)) at_second goes.sound.sound

      repeated : other.upload.act again there ≡ (Repeated, there)
      repeated =
          subst (λ act. act again there ≡ (Repeated, there)) (sym second_act)
          (act_again (register_of at_first) (register_of at_second) (parties_stay at_first at_second goes) goes.stays
          whose message sent.1 again.1 here there (λ k. record again.1 { control = sym alike.control k })
          (subst (λ act. (act sent here).0 ≡ Accepted) first_act accepted)
          (subst (λ act. StaysRemembered (act sent here).1 there) first_act still_remembers) sound_there)

      pub told_again : told_at at_second second other.upload later ≡ Some Repeated
      told_again =
          told_there (other.upload.act) (messages_at second.moment other.upload.interchange) later again at_second second_there
          ∙ ap (λ (after : Told × Tables). Some after.0) repeated

      pub left_again : tables_before at_second second other.upload (later + 1) ≡ there
      left_again =
          next_there (other.upload.act) (messages_at second.moment other.upload.interchange) later again at_second second_there
          ∙ ap (λ (after : Told × Tables). after.1) repeated

-- The cancellation that is sent again.
module _ (c : Cancel) where
  step_cancels : (u : Tables) (input : Input)
      → AsksCancel u c input
      → shared_step u input Whole ≡ (act_reply (cancel_named (register_of u) c u).0, (cancel_named (register_of u) c u).1)
  step_cancels u input asked =
      ap (λ role. step_as (register_of u) role (row_at input.caller u) input Whole u) asked.retailers
      ∙ ap (λ request. retailer_request (register_of u) input.moment Whole request u) asked.asks

  -- if a cancellation was accepted, what it left is still remembered after the run
  module _ (t : Tables) (before between : Inputs) (first : Input) (asked : AsksCancel (shared_run t before).1 c first) where
    abbrev when_first : Tables
    when_first = (shared_run t before).1

    abbrev after_run : Tables
    after_run = (shared_run t (before ++ (first, Whole) ∷ between)).1

    cancel_stays : StaysRemembered (cancel_named (register_of when_first) c when_first).1 after_run
    cancel_stays = λ row was.
        let stepped : Has (shared_step when_first first Whole).1.remembered row =
        subst (λ (after : Reply × Tables). Has after.1.remembered row) (sym (step_cancels when_first first asked)) was in
        subst (λ (u : Tables). Has u.remembered row) (sym (run_of_both t before ((first, Whole) ∷ between)))
        (run_stays (shared_step when_first first Whole).1 between row stepped)

    -- the reply says that it was accepted
    told_by_reply : (told : Told) → act_reply told ≡ act_reply Accepted → told ≡ Accepted
    told_by_reply Accepted h = refl
    told_by_reply Repeated h = let first : 114 ≡ 97 = ap (λ (r : Reply). get_or r.body 0 0) h in absurd (omega (arith, first))
    told_by_reply (Refused code) h = absurd (true≢false (ap (λ (r : Reply). r.refused) h))

    pub cancellation_there : (shared_step when_first first Whole).0 ≡ act_reply Accepted
        → Has after_run.remembered (row_of_cancel c)
    cancellation_there h =
        let told = told_by_reply (cancel_named (register_of when_first) c when_first).0
        (sym (ap (λ (after : Reply × Tables). after.0) (step_cancels when_first first asked)) ∙ h) in
        cancel_stays (row_of_cancel c) (cancellation_remembered (register_of when_first) c when_first told)

    pub cancelled_again : (second : Input)
        → SoundHub when_first
        → AsksCancel after_run c second
        → (cancel_named (register_of when_first) c when_first).0 ≡ Accepted
        → shared_step after_run second Whole ≡ (act_reply Repeated, after_run)
    cancelled_again second start asked_again told =
        step_cancels after_run second asked_again
        ∙ ap (λ (after : Told × Tables). (act_reply after.0, after.1)) (by_row (row_at c.supplier when_first) refl)
      where
        ran : KeepsSuppliers when_first after_run
        ran = subst (KeepsSuppliers when_first) (sym (run_of_both t before ((first, Whole) ∷ between)))
            (run_goes ((first, Whole) ∷ between) when_first start)

        by_row : (o : Option SupplierRow)
            → row_at c.supplier when_first ≡ o
            → cancel_named (register_of after_run) c after_run ≡ (Repeated, after_run)
        by_row None none =
            let refused : (cancel (view c.supplier) None c when_first).0 ≡ Accepted =
            ap (λ o. (cancel (view c.supplier) o c when_first).0) (sym none) ∙ told in
            cc
        by_row (Some w) known =
            ap (λ o. cancel (view c.supplier) o c after_run) (ran.stays c.supplier w known ∙ sym known)
            ∙ cancellation_repeated (suppliers_of after_run) (register_of when_first) c when_first after_run told cancel_stays
            ran.sound.sound
