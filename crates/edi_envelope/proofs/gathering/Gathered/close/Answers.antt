use Rattle.std.proofs.Common.{◌≡◌, length, sym, ap, ◌∙◌, arith, vec_len}
use Rattle.std.proofs.lemmas.Bool.{eqb-true, eqb-false}
use Rattle.std.proofs.lemmas.List.{nil_from_length}
use Rattle.edi_envelope.specs.Message.{message_of}
use Rattle.edi_envelope.proofs.GatherLemmas.{closed_empty, closed_more}
use Rattle.edi_envelope.proofs.gathering.Gathered.close.Goals as goal

pub returns-then-is_empty : goal.returns-then-is_empty
returns-then-is_empty c = λ lent k.
    let len : vec_len c.args.self.now.last ≡ length c.args.self.now.last.items = omega arith in
    let zero : vec_len c.args.self.now.last ≡ 0 = eqb-true _ _ (sym c.is_empty.ensures ∙ c.if-is_empty.true) in
    closed_empty lent c.args.self.now k (nil_from_length _ (sym len ∙ zero))

pub returns : goal.returns
returns c = λ lent k.
    let len : vec_len c.args.self.now.last ≡ length c.args.self.now.last.items = omega arith in
    record {
      head = k.head;
      last = ap (λ v. v.items) c.replace-segments.ensures.after ∙ c.new.ensures.items;
      messages =
          closed_more lent c.args.self.now c.push.new.self.items c.in_ok-message.message k
          (λ none. eqb-false _ _ (sym c.is_empty.ensures ∙ c.if-is_empty.false) (len ∙ ap length none))
          (c.in_ok-message.ensures ∙ ap message_of (c.from_vec.ensures ∙ ap (λ v. v.items) c.replace-segments.ensures.value))
          c.in_ok-push.ensures.items;
    }
