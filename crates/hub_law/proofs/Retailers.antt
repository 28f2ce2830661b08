-- Compares an input of the retailer in the tables of all with what one GLN sees of it.
use Rattle.std.proofs.Common.{◌≡◌, ℕ, nat_lt, Bool, true, false, cond, ◌&&◌, if◌then◌else◌, List, [], ◌∷◌, map, filter, take}
use Rattle.std.proofs.Common.{Option, Some, None, refl, sym, ◌∙◌, ap, subst, arith}
use Rattle.std.proofs.lemmas.Bool.Decides.{nat_tests}
use Rattle.edi_envelope.specs.declared.interchange.RawMessage.{RawMessage}
use Rattle.gs1_ids.specs.Overlap.{PrefixFree}
use Rattle.hub_parties.specs.Rows.{Parties, RegisterRows, parties_of, company_prefixes, supplier_row}
use Rattle.hub_parties.specs.declared.row.SupplierRow.{SupplierRow}
use Rattle.hub_tables.specs.Change.{apply_all}
use Rattle.hub_tables.specs.Register.{suppliers_of, row_at}
use Rattle.hub_tables.specs.Rows.{same}
use Rattle.hub_tables.specs.Tables.{Tables, view}
use Rattle.hub_tables.specs.declared.change.Change.{Change}
use Rattle.hub_tables.proofs.Enrolling.{own_row}
use Rattle.hub_tables.proofs.Lists.{same_is, same_if}
use Rattle.hub_rules.specs.JoinRules.{is_join, judge_join, joins, is_accepted}
use Rattle.hub_rules.specs.Laws.{JoinedBy}
use Rattle.hub_rules.specs.declared.incoming.IncomingMessage.{IncomingMessage}
use Rattle.hub_rules.specs.declared.cancel.Cancel.{Cancel}
use Rattle.hub_rules.specs.declared.verdict.Verdict.TheVariants.{Accept, Refuse}
use Rattle.hub_rules.specs.Sound.{Sound}
use Rattle.hub_rules.proofs.Prefixes.{gln_found}
use Rattle.hub_law.specs.Alone.{Item, Message, Cancellation, Joined, fold, retailer_items}
use Rattle.hub_law.specs.Mark.{Mark, Whole, StoppedEmpty, StoppedBare, StoppedAfter, acts_done, replied}
use Rattle.hub_law.specs.Messages.{named, deliver_retailers, cancel}
use Rattle.hub_law.specs.Replies.{denied}
use Rattle.hub_law.specs.Requests.{looked_at, from_retailer, deliver_named, cancel_named, answered, joined, retailer_request}
use Rattle.hub_law.specs.Told.{Act, act, in_row}
use Rattle.hub_requests.specs.declared.request.Request.{Request}
use Rattle.hub_requests.specs.declared.request.Request.TheVariants as requests
use Rattle.hub_law.proofs.Acting.{Alike, ActStaysSound, parties_on, suppliers_same, stays_same}
use Rattle.hub_law.proofs.Acts.{retailers_act, cancel_act, nobodys_message, nobodys_cancellation}
use Rattle.hub_law.proofs.Steps.{unlike}

-- if a single act was stopped after any number of acts, none was done
pub none_of_one : (k : ℕ) (below : Bool) → nat_lt k 1 ≡ below → (if below then k else 0) ≡ 0
none_of_one k true e = grind (arith, nat_tests)
none_of_one k false e = refl

-- an act for a supplier or for none, with what that supplier sees
abbrev pub ActFor : Type 0
ActFor = (Tables → Tables) → Option SupplierRow → Act

-- the act concerns only its supplier, and does nothing if it has none
pub record IsApart (suppliers : List SupplierRow) (t : Tables) (act : ActFor) : Type 0 where
  pub ones : (w : SupplierRow)
      → supplier_row suppliers w.gln ≡ Some w
      → Alike suppliers w t (act (view w.gln) (Some w) t) (act (λ rows. rows) (Some w) (view w.gln t))
  pub nobodys : (look : Tables → Tables) (u : Tables) → (act look None u).1 ≡ u

-- the act for the supplier with this GLN
abbrev pub by_name : List SupplierRow → List ℕ → ActFor → Act
by_name suppliers gln act = act (view gln) (supplier_row suppliers gln)

module _ (suppliers : List SupplierRow) (t : Tables) (sound : Sound suppliers t) (act : ActFor)
    (apart : IsApart suppliers t act) (gln : List ℕ) where
  named_stays : ActStaysSound suppliers t (by_name suppliers gln act t).1
  named_stays = by_whom (supplier_row suppliers gln) refl
    where
      by_whom : (o : Option SupplierRow) → supplier_row suppliers gln ≡ o → ActStaysSound suppliers t (act (view gln) o t).1
      by_whom None h = subst (ActStaysSound suppliers t) (sym (apart.nobodys (view gln) t)) (stays_same suppliers t sound)
      by_whom (Some w) h =
          let whose = gln_found suppliers gln w h in
          let alike = apart.ones w (ap (supplier_row suppliers) whose ∙ h) in
          subst (λ n. ActStaysSound suppliers t (act (view n) (Some w) t).1) whose
          (record { sound = alike.apart.sound; parties = alike.apart.parties })

  module _ (other : List ℕ) where
    -- the supplier that is named sees the act as its own, and no other sees any change
    named_sees : same gln other ≡ true
        → view other (by_name suppliers gln act t).1 ≡ (act (λ rows. rows) (supplier_row suppliers other) (view other t)).1
    named_sees e =
        ap (λ n. view other (by_name suppliers n act t).1) (same_is gln other e) ∙ by_whom (supplier_row suppliers other) refl
      where
        by_whom : (o : Option SupplierRow)
            → supplier_row suppliers other ≡ o
            → view other (act (view other) o t).1 ≡ (act (λ rows. rows) o (view other t)).1
        by_whom None h = ap (view other) (apart.nobodys (view other) t) ∙ sym (apart.nobodys (λ rows. rows) (view other t))
        by_whom (Some w) h =
            let whose = gln_found suppliers other w h in
            subst (λ n. view n (act (view n) (Some w) t).1 ≡ (act (λ rows. rows) (Some w) (view n t)).1) whose
            (apart.ones w (ap (supplier_row suppliers) whose ∙ h)).apart.seen

    another_sees : same gln other ≡ false → view other (by_name suppliers gln act t).1 ≡ view other t
    another_sees e = by_whom (supplier_row suppliers gln) refl
      where
        by_whom : (o : Option SupplierRow) → supplier_row suppliers gln ≡ o → view other (act (view gln) o t).1 ≡ view other t
        by_whom None h = ap (view other) (apart.nobodys (view gln) t)
        by_whom (Some w) h =
            let whose = gln_found suppliers gln w h in
            let unseen = (apart.ones w (ap (supplier_row suppliers) whose ∙ h)).apart.unseen other (unlike suppliers gln w other h e) in
            subst (λ n. view other (act (view n) (Some w) t).1 ≡ view other t) whose unseen

-- from its own rows, the GLN sees its items done and gets no reply
pub record Moves (parties : Parties) (gln : List ℕ) (own after : Tables) (items : List Item) : Type 0 where
  pub seen : view gln after ≡ (fold parties gln items own).1
  pub silent : (fold parties gln items own).0 ≡ []

pub still : (parties : Parties) (gln : List ℕ) (t : Tables) → Moves parties gln (view gln t) t []
still parties gln t = record { seen = refl; silent = refl }

-- the row of a GLN, from what it sees
pub seen_row : (suppliers : List SupplierRow) (t : Tables) (gln : List ℕ)
    → suppliers_of t ≡ suppliers
    → row_at gln (view gln t) ≡ supplier_row suppliers gln
seen_row suppliers t gln held = own_row gln t ∙ ap (λ suppliers. supplier_row suppliers gln) held

module _ (register : RegisterRows) (free : PrefixFree (company_prefixes register.suppliers)) where
  abbrev S : List SupplierRow
  S = register.suppliers

  message_apart : (sent : RawMessage × IncomingMessage) (t : Tables)
      → Sound S t
      → IsApart S t (λ look supplier. deliver_retailers look (parties_of register) supplier sent)
  message_apart sent t sound = record {
    ones = λ w known. retailers_act S free (parties_of register) w known sent t sound;
    nobodys = λ look u. nobodys_message look (parties_of register) sent u;
  }

  cancel_apart : (c : Cancel) (t : Tables) → Sound S t → IsApart S t (λ look supplier. cancel look supplier c)
  cancel_apart c t sound = record {
    ones = λ w known. cancel_act S free (parties_of register) w known c t sound;
    nobodys = λ look u. nobodys_cancellation look c u;
  }

  -- Tables stay sound.
  pub message_stays : (sent : RawMessage × IncomingMessage) (t : Tables) → Sound S t → ActStaysSound S t (deliver_named register sent t).1
  message_stays sent t sound = named_stays S t sound _ (message_apart sent t sound) (named sent.0)

  pub messages_stay : (sents : List (RawMessage × IncomingMessage)) (t : Tables)
      → Sound S t
      → ActStaysSound S t (in_row (deliver_named register) sents t).1
  messages_stay [] t sound = stays_same S t sound
  messages_stay (sent ∷ sents) t sound =
      let one = message_stays sent t sound in
      let rest = messages_stay sents (deliver_named register sent t).1 one.sound in
      record {
        sound = rest.sound;
        parties = parties_on t (deliver_named register sent t).1 (in_row (deliver_named register) (sent ∷ sents) t).1
            one.parties rest.parties;
      }

  pub cancelled_stays : (mark : Mark) (c : Cancel) (t : Tables)
      → Sound S t
      → ActStaysSound S t (answered mark (cancel_named register c t) t).1
  cancelled_stays Whole c t sound = named_stays S t sound _ (cancel_apart c t sound) c.supplier
  cancelled_stays StoppedEmpty c t sound = stays_same S t sound
  cancelled_stays StoppedBare c t sound = stays_same S t sound
  cancelled_stays (StoppedAfter k) c t sound = stays_same S t sound

  -- For what one GLN sees.
  module _ (gln : List ℕ) where
    abbrev P : Tables → Tables → List Item → Type 0
    P = Moves (parties_of register) gln

    pub messages_move : (sents : List (RawMessage × IncomingMessage)) (t : Tables)
        → Sound S t
        → suppliers_of t ≡ S
        → P (view gln t) (in_row (deliver_named register) sents t).1
        (map Message (filter (λ sent. same (named sent.0) gln) sents))
    messages_move [] t sound held = still (parties_of register) gln t
    messages_move (sent ∷ sents) t sound held =
        let apart = message_apart sent t sound in
        let after = (in_row (deliver_named register) (sent ∷ sents) t).1 in
        let later = filter (λ sent. same (named sent.0) gln) sents in
        let one = message_stays sent t sound in
        let rest = messages_move sents (deliver_named register sent t).1 one.sound
        (suppliers_same t (deliver_named register sent t).1 one.parties ∙ held) in
        elim (same (named sent.0) gln) as (λ v. same (named sent.0) gln ≡ v
        → P (view gln t) after (map Message (cond v (sent ∷ later) later))) [
          | true ↦ λ e.
              let moves = subst (λ own. P own after (map Message later))
              (named_sees S t sound _ apart (named sent.0) gln e
              ∙ ap (λ o. (deliver_retailers (λ rows. rows) (parties_of register) o sent (view gln t)).1)
              (sym (seen_row S t gln held))) rest in
              record { seen = moves.seen; silent = moves.silent }
          | false ↦ λ e. subst (λ own. P own after (map Message later))
              (another_sees S t sound _ apart (named sent.0) gln e) rest
        ] refl

    neither : (t : Tables) (v : Bool) → P (view gln t) t (if v then [] else [])
    neither t true = still (parties_of register) gln t
    neither t false = still (parties_of register) gln t

    pub cancelled_moves : (moment : ℕ) (mark : Mark) (c : Cancel) (t : Tables)
        → Sound S t
        → suppliers_of t ≡ S
        → P (view gln t) (answered mark (cancel_named register c t) t).1
        (if same c.supplier gln then take (acts_done mark 1) (Cancellation moment c ∷ []) else [])
    cancelled_moves moment Whole c t sound held =
        elim (same c.supplier gln) as (λ v. same c.supplier gln ≡ v
        → P (view gln t) (cancel_named register c t).1 (if v then Cancellation moment c ∷ [] else [])) [
          | true ↦ λ e. record {
            seen = named_sees S t sound _ (cancel_apart c t sound) c.supplier gln e
                ∙ ap (λ o. (cancel (λ rows. rows) o c (view gln t)).1) (sym (seen_row S t gln held));
            silent = refl;
          }
          | false ↦ λ e. record {
            seen = another_sees S t sound _ (cancel_apart c t sound) c.supplier gln e;
            silent = refl;
          }
        ] refl
    cancelled_moves moment StoppedEmpty c t sound held = neither t (same c.supplier gln)
    cancelled_moves moment StoppedBare c t sound held = neither t (same c.supplier gln)
    cancelled_moves moment (StoppedAfter k) c t sound held =
        subst (λ done. P (view gln t) t (if same c.supplier gln then take done (Cancellation moment c ∷ []) else []))
        (sym (none_of_one k (nat_lt k 1) refl)) (neither t (same c.supplier gln))

    -- A join, if what it does once it is accepted is known.
    module _ (row : SupplierRow) (t : Tables)
        (takes : is_join row ≡ true → (changes : List Change) → judge_join register row ≡ Accept changes
        → JoinedBy row t (apply_all changes t)) where
      abbrev item : Bool → Mark → List Item
      item accepts mark = if same row.gln gln && accepts then take (acts_done mark 1) (Joined row ∷ []) else []

      not_taken : (mark : Mark) → P (view gln t) t (item false mark)
      not_taken mark =
          elim (same row.gln gln) as (λ v. P (view gln t) t
          (if v && false then take (acts_done mark 1) (Joined row ∷ []) else [])) [
            | true ↦ still (parties_of register) gln t
            | false ↦ still (parties_of register) gln t
          ]

      taken_by : (changes : List Change)
          → JoinedBy row t (apply_all changes t)
          → P (view gln t) (apply_all changes t) (item true Whole)
      taken_by changes by =
          elim (same row.gln gln) as (λ v. same row.gln gln ≡ v
          → P (view gln t) (apply_all changes t) (if v && true then Joined row ∷ [] else [])) [
            | true ↦ λ e. subst (λ n. Moves (parties_of register) n (view n t) (apply_all changes t) (Joined row ∷ []))
                (same_is row.gln gln e) (record { seen = by.seen; silent = refl })
            | false ↦ λ e. record {
              seen = by.unseen gln (λ is. let matches = same_if row.gln gln (sym is) in (cc));
              silent = refl;
            }
          ] refl

      join_accepted : (mark : Mark) (changes : List Change)
          → JoinedBy row t (apply_all changes t)
          → P (view gln t) (answered mark (act (Accept changes) t) t).1 (item true mark)
      join_accepted Whole changes by = taken_by changes by
      join_accepted StoppedEmpty changes by = neither t (same row.gln gln && true)
      join_accepted StoppedBare changes by = neither t (same row.gln gln && true)
      join_accepted (StoppedAfter k) changes by =
          subst (λ done. P (view gln t) t (if same row.gln gln && true then take done (Joined row ∷ []) else []))
          (sym (none_of_one k (nat_lt k 1) refl)) (neither t (same row.gln gln && true))

      join_refused : (mark : Mark) (code : _) → (answered mark (act (Refuse code) t) t).1 ≡ t
      join_refused Whole code = refl
      join_refused StoppedEmpty code = refl
      join_refused StoppedBare code = refl
      join_refused (StoppedAfter k) code = refl

      pub joined_moves : (mark : Mark) → P (view gln t) (joined register mark row t).1 (item (joins register row) mark)
      joined_moves mark =
          elim (is_join row) as (λ v. is_join row ≡ v
          → P (view gln t) (if v then answered mark (act (judge_join register row) t) t else replied mark denied t).1
          (item (v && is_accepted (judge_join register row)) mark)) [
            | true ↦ λ may. elim (judge_join register row) as (λ v. judge_join register row ≡ v
                → P (view gln t) (answered mark (act v t) t).1 (item (is_accepted v) mark)) [
                  | Accept changes ↦ λ e. join_accepted mark changes (takes may changes e)
                  | Refuse code ↦ λ e. subst (λ after. P (view gln t) after (item false mark))
                      (sym (join_refused mark code)) (not_taken mark)
                ] refl
            | false ↦ λ never. not_taken mark
          ] refl

    pub retailer_moves : (moment : ℕ) (mark : Mark) (request : Request) (t : Tables)
        → Sound S t
        → suppliers_of t ≡ S
        → ((row : SupplierRow) → is_join row ≡ true → (changes : List Change) → judge_join register row ≡ Accept changes
        → JoinedBy row t (apply_all changes t))
        → P (view gln t) (retailer_request register moment mark request t).1 (retailer_items gln register moment mark request)
    retailer_moves moment mark (requests.Upload bytes) t sound held takes =
        messages_move (looked_at moment mark (from_retailer (parties_of register) bytes)) t sound held
    retailer_moves moment mark (requests.MailAfter number) t sound held takes = still (parties_of register) gln t
    retailer_moves moment mark (requests.MailItem number) t sound held takes = still (parties_of register) gln t
    retailer_moves moment mark (requests.MailTaken number) t sound held takes = still (parties_of register) gln t
    retailer_moves moment mark requests.Status t sound held takes = still (parties_of register) gln t
    retailer_moves moment mark (requests.StatusOf other) t sound held takes = still (parties_of register) gln t
    retailer_moves moment mark (requests.Cancel c) t sound held takes = cancelled_moves moment mark c t sound held
    retailer_moves moment mark (requests.Join row) t sound held takes = joined_moves row t (takes row) mark
