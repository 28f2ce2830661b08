use Rattle.std.proofs.Common.{◌≡◌, ◌<◌, ◌+◌, ◌∷◌, inl, inr, Bool, get_or, ◌++◌, List, length, Ok, arith, refl, subst}
use Rattle.std.proofs.Common.{sym, ap, ◌∙◌, ℕ, Option, IsTrue, ◌⊎◌, None}
use Rattle.std.specs.Option.{IfSome}
use Rattle.std.proofs.lemmas.Grind.{common_steps}
use Rattle.hub_tables.specs.Tables.{Tables}
use Rattle.hub_store.specs.declared.fault.LastingFault.{LastingFault}
use Rattle.hub_law.specs.Mark.{StoppedAfter}
use Rattle.hub_law.specs.Requests.{uploaded}
use Rattle.hub_law.specs.Replies.{stopped_line, told_words}
use Rattle.hub_law.specs.Widths.{line}
use Rattle.hub_requests.specs.declared.reply.Outcome.TheVariants.{Stopped}
use Rattle.hub_transactions.specs.HubTexts.Decision.{told_of}
use Rattle.hub_transactions.specs.Acts.{OfAny}
use Rattle.hub_transactions.specs.HubOrderLines.Book.{Orders}
use Rattle.hub_core.specs.Callers.{delivered, KeepsFor}
use Rattle.hub_core.specs.Steps.{OneMore}
use Rattle.hub_core.specs.Uploads.{DoneSoFar}
use Rattle.hub_core.proofs.Callers.{none_kept_for}
use Rattle.hub_core.proofs.Breaking.{failed, stopped_by, where_both, where_some}
use Rattle.hub_core.proofs.SoFar.{sent_at, so_far_none, so_far_more, so_far_then, uploaded_stopped, uploaded_whole}
use Rattle.hub_core.proofs.upload.take_messages.Goals as goal

pub loop-message-init : goal.loop-message-init
loop-message-init g c = record {
  room = c.requires.room;
  was_honest = λ h. h;
  may = λ h m. m;
  kept = λ h m. subst (λ (orders : Orders). KeepsFor c.args.upload.now.caller orders (g.S.Store.content c.args.store.now))
      (sym c.new-orders.ensures) (none_kept_for c.args.upload.now.caller (g.S.Store.content c.args.store.now));
  broken = refl;
  unasked =
      where_some (g.S.Store.broken c.args.store.now) (λ (t : Tables).
      so_far_none (delivered c.args.upload.now.register.now c.args.upload.now.caller) c.args.upload.now.moment
      c.args.upload.now.interchange.now t c.args.reply.items c.requires.line);
  so_far =
      λ h m. so_far_none (delivered c.args.upload.now.register.now c.args.upload.now.caller) c.args.upload.now.moment
      c.args.upload.now.interchange.now
      (g.S.Store.content c.args.store.now) c.args.reply.items c.requires.line;
  left = λ h m t l. inr (refl, l);
}

pub returns-in_default-clause-answered : goal.returns-in_default-clause-answered
returns-in_default-clause-answered g c honest may =
    let deliver = delivered c.args.upload.now.register.now c.args.upload.now.caller in
    let t = g.S.Store.content c.args.store.now in
    let before = g.S.Store.content c.loop-message.store in
    let count = c.loop-message.message-index in
    let was = c.take_message.ensures.unharmed.was_honest honest in
    let below : count < length c.args.upload.now.interchange.now.messages =
    rw c.as_slice-message-items.ensures at c.loop-message-test.true in
    let there : c.message-item.result ≡ get_or c.args.upload.now.interchange.now.messages count c.message-item.result =
    rw c.as_slice-message-items.ensures at c.message-item.is in
    let far = c.loop-message.invariant.so_far was may in
    let written : c.extend_from_slice.new.self.items ≡ c.take_message.new.reply.items ++ stopped_line =
    grind (arith, common_steps) in
    let body : c.from_vec.result ≡ c.loop-message.reply.items ++ stopped_line =
    c.from_vec.ensures ∙ written ∙ ap (λ xs. xs ++ stopped_line) c.in_default.ensures.reply.stays in
    let same = c.in_default.ensures.unharmed.same honest in
    record {
      mark = StoppedAfter count;
      is =
          uploaded_stopped deliver c.args.upload.now.moment c.args.upload.now.interchange.now t before count
          c.loop-message.refused
          c.loop-message.reply.items below far
          ∙ (λ i. (record { outcome = Stopped; refused = c.loop-message.refused; body = sym body i }, sym same i));
      leaves = λ u l. elim ((c.in_default.ensures.carried (c.loop-message.invariant.kept was may)
          (c.loop-message.invariant.may was may)).crash honest u l) [
            | inl e ↦ elim (c.loop-message.invariant.left was may u e) [
              | inl a ↦ inl (a ∙ sym same)
              | inr b ↦ inr (inl (same ∙ b.0, b.1))
            ]
            | inr e ↦ inr (inr (subst (λ (u : Tables). OneMore (length c.args.upload.now.interchange.now.messages)
                (λ mark t. uploaded deliver c.args.upload.now.moment mark (Ok c.args.upload.now.interchange.now) t) t
                (StoppedAfter count) u) (sym e)
                (so_far_then deliver c.args.upload.now.moment c.args.upload.now.interchange.now t before count
                c.loop-message.refused
                c.loop-message.reply.items c.message-item.result below there far)))
          ];
    }

pub loop-message-preserved : goal.loop-message-preserved
loop-message-preserved g c =
    let deliver = delivered c.args.upload.now.register.now c.args.upload.now.caller in
    let t = g.S.Store.content c.args.store.now in
    let before = g.S.Store.content c.loop-message.store in
    let after = g.S.Store.content c.take_message.new.store in
    let count = c.loop-message.message-index in
    let below : count < length c.args.upload.now.interchange.now.messages =
    rw c.as_slice-message-items.ensures at c.loop-message-test.true in
    let there : c.message-item.result ≡ get_or c.args.upload.now.interchange.now.messages count c.message-item.result =
    rw c.as_slice-message-items.ensures at c.message-item.is in
    let told = told_of c.in-Ok.told in
    let more : (t before after : Tables)
    → DoneSoFar deliver c.args.upload.now.moment c.args.upload.now.interchange.now t before count c.loop-message.refused
    c.loop-message.reply.items
    → deliver (sent_at c.args.upload.now.moment c.args.upload.now.interchange.now c.message-item.result) before ≡ (told, after)
    → DoneSoFar deliver c.args.upload.now.moment c.args.upload.now.interchange.now t after (count + 1)
    c.either_refused-refused.result c.take_message.new.reply.items =
    λ t before after far one.
    subst (λ (xs : List ℕ).
    DoneSoFar deliver c.args.upload.now.moment c.args.upload.now.interchange.now t after
    (count + 1) c.either_refused-refused.result xs)
    (sym c.in-Ok.ensures.reply.line)
    (subst (λ (b : Bool).
    DoneSoFar deliver c.args.upload.now.moment c.args.upload.now.interchange.now t after (count + 1) b
    (c.loop-message.reply.items
    ++ line (c.message-item.result.reference ∷ c.message-item.result.kind ∷ told_words told)))
    (sym c.either_refused-refused.ensures)
    (so_far_more deliver c.args.upload.now.moment c.args.upload.now.interchange.now t before after count
    c.loop-message.refused c.loop-message.reply.items c.message-item.result told below there far one)) in
    record {
      room = c.take_message.ensures.reply.room c.loop-message.invariant.room;
      was_honest = λ h. c.loop-message.invariant.was_honest (c.take_message.ensures.unharmed.was_honest h);
      may = λ h m.
          let was = c.take_message.ensures.unharmed.was_honest h in
          c.take_message.ensures.may h (c.loop-message.invariant.kept was m) (c.loop-message.invariant.may was m);
      kept = λ h m.
          let was = c.take_message.ensures.unharmed.was_honest h in
          c.in-Ok.ensures.kept h (c.loop-message.invariant.kept was m) (c.loop-message.invariant.may was m);
      broken = c.in-Ok.ensures.fails.after ∙ c.loop-message.invariant.broken;
      unasked =
          where_both (g.S.Store.broken c.args.store.now) c.loop-message.invariant.unasked
          (subst (λ (o : Option LastingFault). IfSome o (λ _. OfAny (deliver
          (sent_at c.args.upload.now.moment c.args.upload.now.interchange.now c.message-item.result)) told_of c.in-Ok.told))
          c.loop-message.invariant.broken c.in-Ok.ensures.fails.again)
          (λ far tells t. more t t t (far t) (tells t));
      so_far = λ h m.
          let was = c.take_message.ensures.unharmed.was_honest h in
          more t before after (c.loop-message.invariant.so_far was m)
          ((c.in-Ok.ensures.carried (c.loop-message.invariant.kept was m) (c.loop-message.invariant.may was m)).done h);
      left = λ h m u l.
          let was = c.take_message.ensures.unharmed.was_honest h in
          elim ((c.in-Ok.ensures.carried (c.loop-message.invariant.kept was m) (c.loop-message.invariant.may was m)).durable h u l) [
            | inl e ↦ inl e
            | inr e ↦ elim (c.loop-message.invariant.left was m u e.1) [
              | inl a ↦ inl (a ∙ sym e.0)
              | inr b ↦ inr (e.0 ∙ b.0, b.1)
            ]
          ];
    }

pub returns-in_default-clause-breaks : goal.returns-in_default-clause-breaks
returns-in_default-clause-breaks g c =
    let deliver = delivered c.args.upload.now.register.now c.args.upload.now.caller in
    let new = g.S.Store.broken c.take_message.new.store in
    stopped_by g.S.Store.plain
    (λ mark t. uploaded deliver c.args.upload.now.moment mark (Ok c.args.upload.now.interchange.now) t)
    (g.S.Store.broken c.args.store.now) new _
    (subst (λ (o : Option LastingFault). ((new ≡ o) ⊎ (o ≡ None)) × (IsTrue g.S.Store.plain → new ≡ o))
    c.loop-message.invariant.broken (failed _ _ _ _ _ _ c.in_default.ensures.fails)) refl

pub returns-clause-breaks : goal.returns-clause-breaks
returns-clause-breaks g c =
    let deliver = delivered c.args.upload.now.register.now c.args.upload.now.caller in
    let moment = c.args.upload.now.moment in
    let interchange = c.args.upload.now.interchange.now in
    let all : c.loop-message.message-index ≡ length interchange.messages = grind (arith, common_steps) in
    let broken = c.loop-message.invariant.broken in
    record {
      after = inl broken;
      again =
          where_both (g.S.Store.broken c.args.store.now) c.loop-message.invariant.unasked c.loop-message.invariant.unasked
          (λ far _. inr (λ t. uploaded_whole deliver moment interchange t t c.loop-message.refused c.from_vec-body.result
          (subst (λ (n : ℕ). DoneSoFar deliver moment interchange t t n c.loop-message.refused c.from_vec-body.result) all
          (subst (λ (xs : List ℕ). DoneSoFar deliver moment interchange t t c.loop-message.message-index c.loop-message.refused xs)
          (sym c.from_vec-body.ensures) (far t)))));
      over_plain = λ p. broken;
    }
