-- Proves what a request did that only looked things up, that was one act, or that was an upload.
use Rattle.std.proofs.Common.{◌≡◌, true, inl, inr, ℕ, Option, Some, None, List, length, Result, Ok, Err, IfOk, refl, sym, ap, subst, ◌∙◌}
use Rattle.std.specs.Borrow.{Bor}
use Rattle.std.specs.Option.{is_some, option_copied}
use Rattle.std.proofs.lemmas.Bool.{true≢false}
use Rattle.edi_envelope.specs.declared.interchange.Interchange.{Interchange}
use Rattle.edi_envelope.specs.declared.interchange.RawMessage.{RawMessage}
use Rattle.hub_parties.specs.declared.row.SupplierRow.{SupplierRow}
use Rattle.hub_tables.specs.Tables.{Tables}
use Rattle.hub_store.specs.declared.fault.StoreFault.{StoreFault}
use Rattle.hub_store.specs.declared.store.Store.{Ghosts}
use Rattle.hub_rules.specs.declared.incoming.IncomingMessage.{IncomingMessage}
use Rattle.hub_law.specs.Mark.{Whole, StoppedBare}
use Rattle.hub_law.specs.Opening.{Opened}
use Rattle.hub_law.specs.Replies.{done, refused_reply}
use Rattle.hub_law.specs.Requests.{report, uploaded}
use Rattle.hub_law.specs.StatusText.{status_text}
use Rattle.hub_law.specs.Stops.{opened_for}
use Rattle.hub_law.specs.Told.{Act}
use Rattle.hub_requests.specs.declared.reply.Reply.{Reply}
use Rattle.hub_transactions.specs.Acts.{Stays, Carried, Unharmed, as_told}
use Rattle.hub_core.specs.Steps.{Does, OneMore, IsAnswered, AnsweredOrUndone, acts_of}

module _ {S : Type 0} (g : Ghosts S) (old new : S) (count : ℕ)
    (does : Does) where
  still : g.honest new
      → Stays g old new
      → (reply : Reply)
      → does Whole (g.content old) ≡ (reply, g.content old)
      → IsAnswered g old new count does reply
  still h stays reply is = record {
    mark = Whole;
    is = is ∙ ap (λ t. (reply, t)) (sym (stays.content_stays h));
    leaves = λ u l. inr (inl (stays.content_stays h, stays.left_stays h u l));
  }

  pub by_look : (result : Result Reply StoreFault) (reply : Reply)
      → Stays g old new
      → (g.honest new → IfOk result (λ given. given ≡ reply))
      → does Whole (g.content old) ≡ (reply, g.content old) → AnsweredOrUndone g old new count does result
  by_look (Ok given) reply stays says is =
      record {
        answered = λ h. still h stays given (is ∙ ap (λ reply. (reply, g.content old)) (sym (says h)));
        undone = λ h. tt;
      }
  by_look (Err fault) reply stays says is = record {
    answered = λ h. tt;
    undone = λ h. record { same = stays.content_stays h; leaves = λ u l. inl (stays.left_stays h u l) };
  }

  pub by_act : (act : Tables → Reply × Tables) (result : Result Reply StoreFault) → count ≡ 1 → ((t : Tables) → does Whole t ≡ act t)
      → Carried g old new act as_told result
      → Unharmed g old new result
      → AnsweredOrUndone g old new count does result
  by_act act (Ok reply) one is carried unharmed = record {
    answered = λ h. record {
      mark = Whole;
      is = is (g.content old) ∙ carried.done h;
      leaves = λ u l. elim (carried.durable h u l) [
        | inl e ↦ inl e
        | inr e ↦ inr (inl e)
      ];
    };
    undone = λ h. tt;
  }
  by_act act (Err fault) one is carried unharmed = record {
    answered = λ h. tt;
    undone = λ h. record {
      same = unharmed.same h;
      leaves = λ u l. elim (carried.crash h u l) [
        | inl e ↦ inl e
        | inr e ↦ inr (let more : OneMore count does (g.content old) StoppedBare u = record {
          more = Whole;
          one = one;
          is = ap (λ (r : Reply × Tables). r.1) (is (g.content old)) ∙ sym e;
        } in more)
      ];
    };
  }

-- an upload
module _ {S : Type 0} (g : Ghosts S)
    (deliver : RawMessage × IncomingMessage → Act) (moment : ℕ) where
  abbrev pub AskedOf : S → S → Opened → Reply → Type 0
  AskedOf old new opened reply =
      AnsweredOrUndone g old new (acts_of (opened_for deliver opened))
      (λ mark t. uploaded deliver moment mark opened t) (Ok reply)

  pub upload_refused : (store : S) (opened : Opened) (code : List ℕ) (reply : Reply)
      → opened ≡ Err code
      → reply ≡ refused_reply code
      → AskedOf store store opened reply
  upload_refused store opened code reply is says =
      subst (λ opened. AskedOf store store opened reply) (sym is)
      (by_look g store store 1 (λ mark t. uploaded deliver moment mark (Err code) t) (Ok reply) (refused_reply code)
      (record { content_stays = λ h. refl; left_stays = λ h u l. l; was_honest = λ h. h }) (λ h. says) refl)

  pub upload_taken : (old new : S) (opened : Opened) (interchange : Interchange) (reply : Reply) → opened ≡ Ok interchange
      → (g.honest new
      → IsAnswered g old new (length interchange.messages)
      (λ mark t. uploaded deliver moment mark (Ok interchange) t) reply)
      → AskedOf old new opened reply
  upload_taken old new opened interchange reply is answered =
      subst (λ opened. AskedOf old new opened reply) (sym is) (record { answered = answered; undone = λ h. tt })

-- the status of a supplier that was found
pub reported : (found : Option (Bor SupplierRow)) (row : Option SupplierRow) (state : Tables)
    → true ≡ is_some found
    → option_copied found ≡ row
    → report row state ≡ done (status_text state)
reported None row state there is = absurd (true≢false there)
reported (Some supplier) row state there is = ap (λ row. report row state) (sym is)
