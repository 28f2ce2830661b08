-- Proves that only a join changes the register, and that a denied request changes nothing.
use Rattle.std.proofs.Common.{◌≡◌, ◌⊎◌, inl, inr, ℕ, true, false, List, if◌then◌else◌, Option, Some, None, Result, Ok, Err, refl, sym, ap}
use Rattle.std.proofs.Common.{◌≢◌, IfOk, OnErr, subst, ◌∙◌}
use Rattle.hub_parties.specs.Rows.{RegisterRows, parties_of, supplier_row}
use Rattle.hub_parties.specs.declared.row.SupplierRow.{SupplierRow}
use Rattle.hub_tables.specs.Register.{register_of, suppliers_of}
use Rattle.hub_tables.specs.Tables.{Tables}
use Rattle.hub_store.specs.declared.fault.StoreFault.{StoreFault}
use Rattle.hub_store.specs.declared.store.Store.{Ghosts}
use Rattle.hub_rules.specs.Laws.{SoundHub, PartiesStay}
use Rattle.hub_rules.proofs.Prefixes.{gln_found}
use Rattle.hub_law.specs.Machine.{shared_step}
use Rattle.hub_law.specs.Mark.{Mark, Whole, replied}
use Rattle.hub_law.specs.Replies.{denied, act_reply, reply as with_body}
use Rattle.hub_law.specs.Requests.{looked_at, from_retailer, retailer_request}
use Rattle.hub_law.specs.Told.{Accepted}
use Rattle.hub_requests.specs.declared.reply.Outcome.TheVariants.{Done, Denied, Stopped}
use Rattle.hub_requests.specs.declared.reply.Reply.{Reply}
use Rattle.hub_requests.specs.declared.request.Input.{Input}
use Rattle.hub_requests.specs.declared.request.Request.{Request}
use Rattle.hub_requests.specs.declared.request.Request.TheVariants as requests
use Rattle.hub_law.proofs.Acting.{parties_same, register_same}
use Rattle.hub_law.proofs.Callers.{step_by, is_retailers, step_is}
use Rattle.hub_law.proofs.Retailers.{messages_stay, cancelled_stays}
use Rattle.hub_law.proofs.Steps.{supplier_alike}
use Rattle.hub_transactions.specs.Joins.{KeepsRows}
use Rattle.hub_transactions.proofs.Joins.{keeps_all, keeps_moved}
use Rattle.hub_core.specs.Steps.{Does, AnsweredOrUndone, IsNoJoin, JoinAnswered, SoundWith, Stepped}

module _ (t : Tables) (here : SoundHub t) where
  abbrev R : RegisterRows
  R = register_of t

  retailer_keeps : (moment : ℕ) (mark : Mark) (request : Request)
      → IsNoJoin request
      → PartiesStay t (retailer_request R moment mark request t).1
  retailer_keeps moment mark (requests.Upload bytes) other =
      (messages_stay R here.register.right.prefixes_free (looked_at moment mark (from_retailer (parties_of R) bytes)) t here.sound).parties
  retailer_keeps moment mark (requests.MailAfter number) other = parties_same t
  retailer_keeps moment mark (requests.MailItem number) other = parties_same t
  retailer_keeps moment mark (requests.MailTaken number) other = parties_same t
  retailer_keeps moment mark requests.Status other = parties_same t
  retailer_keeps moment mark (requests.StatusOf gln) other = parties_same t
  retailer_keeps moment mark (requests.Cancel c) other =
      (cancelled_stays R here.register.right.prefixes_free mark c t here.sound).parties
  retailer_keeps moment mark (requests.Join row) other = absurd (other row refl)

  keeps_by : (input : Input) (mark : Mark) (o : Option SupplierRow)
      → supplier_row (suppliers_of t) input.caller ≡ o
      → IsNoJoin input.request
      → PartiesStay t (step_by R o input mark t).1
  keeps_by input mark (Some w) h other =
      let whose = gln_found (suppliers_of t) input.caller w h in
      (supplier_alike (suppliers_of t) here.register.right.prefixes_free (parties_of R) w
      (ap (supplier_row (suppliers_of t)) whose ∙ h) input mark t here.sound).apart.parties
  keeps_by input mark None h other =
      elim (is_retailers R input) as (λ v. PartiesStay t
      (if v then retailer_request R input.moment mark input.request t else replied mark denied t).1) [
        | true ↦ retailer_keeps input.moment mark input.request other
        | false ↦ parties_same t
      ]

  -- the tables hold the same register after it
  register_kept : (input : Input) (mark : Mark)
      → IsNoJoin input.request
      → register_of (shared_step t input mark).1 ≡ register_of t
  register_kept input mark other =
      register_same t (shared_step t input mark).1
      (subst (λ (after : Reply × Tables). PartiesStay t after.1) (sym (step_is R input mark t))
      (keeps_by input mark (supplier_row (suppliers_of t) input.caller) refl other))

-- after a step that is not a join, the tables hold the register that they held
pub still_held : {register : RegisterRows} {t after : Tables} {before left : Tables → Type 0} {input : Input} {reply : Reply}
    → SoundWith register t
    → Stepped t after before left input reply
    → IsNoJoin input.request
    → register ≡ register_of after
still_held {register} {t} {after} {before} {left} {input} here step other =
    here.held ∙ sym (register_kept t here.sound input step.mark other) ∙ ap (λ (r : Reply × Tables). register_of r.1) step.is

-- a request is a join or is not
pub join_or_none : (request : Request) → ((row : SupplierRow) × (request ≡ requests.Join row)) ⊎ IsNoJoin request
join_or_none (requests.Upload bytes) = inr (λ row e. cc)
join_or_none (requests.MailAfter number) = inr (λ row e. cc)
join_or_none (requests.MailItem number) = inr (λ row e. cc)
join_or_none (requests.MailTaken number) = inr (λ row e. cc)
join_or_none requests.Status = inr (λ row e. cc)
join_or_none (requests.StatusOf gln) = inr (λ row e. cc)
join_or_none (requests.Cancel c) = inr (λ row e. cc)
join_or_none (requests.Join row) = inl (row, refl)

-- a request that changes nothing, whatever the tables
pub content_kept : {S : Type 0} (g : Ghosts S) (old new : S) (count : ℕ)
    (does : Does) (result : Result Reply StoreFault)
    → ((mark : Mark) (t : Tables) → (does mark t).1 ≡ t)
    → AnsweredOrUndone g old new count does result
    → g.honest new
    → g.content new ≡ g.content old
content_kept g old new count does (Ok reply) idle asked h =
    let a = asked.answered h in
    sym (ap (λ (r : Reply × Tables). r.1) a.is) ∙ idle a.mark (g.content old)
content_kept g old new count does (Err fault) idle asked h = (asked.undone h).same

-- A join that is not accepted leaves the register as it is.
other_outcome : (reply : Reply) → reply.outcome ≢ Done → reply ≢ act_reply Accepted
other_outcome reply other e = other (ap (λ (r : Reply). r.outcome) e)

module _ (row : SupplierRow) (register : RegisterRows) (does : Does) (reply : Reply) where
  pub join_denied : ((t : Tables) → (does Whole t).0 ≡ denied) → reply ≡ denied → JoinAnswered row register register does reply
  join_denied is says = record {
    told = inr (λ t. is t ∙ sym says);
    moves = inr (
      other_outcome reply (λ done. let no : Denied ≡ Done = sym (ap (λ (r : Reply). r.outcome) says) ∙ done in cc),
      refl,
    );
  }

  pub join_stopped : (new : RegisterRows) (body : List ℕ) → reply ≡ with_body Stopped body → new ≡ register
      → JoinAnswered row register new does reply
  join_stopped new body says same = record {
    told = inl (ap (λ (r : Reply). r.outcome) says);
    moves = inr (
      other_outcome reply (λ done. let no : Stopped ≡ Done = sym (ap (λ (r : Reply). r.outcome) says) ∙ done in cc),
      same,
    );
  }

-- two requests that do the same are the same join
pub join_as : (row : SupplierRow) (old new : RegisterRows) (does same : Does) (result : Result Reply StoreFault)
    → ((t : Tables) → does Whole t ≡ same Whole t)
    → IfOk result (JoinAnswered row old new does)
    → IfOk result (JoinAnswered row old new same)
join_as row old new does same (Ok reply) agree is = record {
  told = elim is.told [ inl stop ↦ inl stop | inr all ↦ inr (λ t. sym (ap (λ (r : Reply × Tables). r.0) (agree t)) ∙ all t) ];
  moves = is.moves;
}
join_as row old new does same (Err fault) agree is = tt

-- the reply to a join that was answered or stopped
pub join_replied : (row : SupplierRow) (old new : RegisterRows) (does : Does) (result : Result Reply StoreFault) (body : List ℕ)
    (reply : Reply)
    → IfOk result (JoinAnswered row old new does)
    → OnErr result (new ≡ old)
    → IfOk result (λ answer. reply ≡ answer)
    → OnErr result (reply ≡ with_body Stopped body)
    → JoinAnswered row old new does reply
join_replied row old new does (Ok answer) body reply is same says stops = subst (JoinAnswered row old new does) (sym says) is
join_replied row old new does (Err fault) body reply is same says stops = join_stopped row old does reply new body stops same

-- suppliers that were registered keep their rows, whatever is asked
pub rows_kept : (request : Request) (old new : RegisterRows) (does : Does) (reply : Reply)
    → ((row : SupplierRow) → request ≡ requests.Join row → JoinAnswered row old new does reply)
    → (IsNoJoin request → new ≡ old)
    → KeepsRows old new
rows_kept request old new does reply joins others =
    elim (join_or_none request) [
      | inl join ↦ keeps_moved join.0 old new reply (joins join.0 join.1).moves
      | inr none ↦ keeps_all old new (others none)
    ]
