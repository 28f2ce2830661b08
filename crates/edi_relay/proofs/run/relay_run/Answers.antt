use Rattle.std.proofs.Common.{ℕ, List, Vec, Global, arith, refl, sym, subst, ◌∙◌, inl, inr}
use Rattle.std.specs.Io.KnownBytes.{Appends}
use Rattle.std.proofs.KnownBytes.{Keeps-refl}
use Rattle.edi_base.specs.Buffer.{AppendsFront}
use Rattle.edi_relay.specs.declared.relay.RelayFault.TheVariants.{Token, Envelope}
use Rattle.edi_relay.proofs.ReadOn.{not_read}
use Rattle.edi_relay.proofs.Lines.{at_ok, at_err}
use Rattle.edi_relay.proofs.Taken.{is_delivered, is_front_delivered, is_refused, was_to_end, same_flag}
use Rattle.edi_relay.proofs.run.relay_run.Goals as goal

abbrev view : Vec ℕ Global → List ℕ
view out = out.items

pub returns-then-is_ok : goal.returns-then-is_ok
returns-then-is_ok g c =
    let old = g.W.Sink.contents c.args.out.now in
    let new = g.W.Sink.contents c.write_bytes.new.out in
    let done = sym c.is_ok.ensures.value ∙ c.if-is_ok.true in
    let written = at_ok c.write_bytes.result c.write_bytes.ensures.ok done in
    let mail = subst (λ (t : List ℕ). Appends old new t) c.as_slice.ensures.value written in
    record {
      taken = c.in-Ok.ensures.taken;
      status = inl refl;
      read = inl c.in-Ok.ensures.flag;
      written = inl (at_ok c.write_bytes.result c.write_bytes.ensures.kept done);
      stands = λ _. c.in-Ok.ensures.stands;
      done = λ _. (
        is_delivered (g.R.Source.remaining c.args.input.now) c.args.words.now old new c.in-Ok.mail.items c.in-Ok.ensures.relayed_as mail,
        Keeps-refl (g.E.Sink.contents c.args.err.now),
      );
      refused = λ e. absurd (omega (arith, e));
      failed = λ e. absurd (omega (arith, e));
    }

pub returns-else-is_ok : goal.returns-else-is_ok
returns-else-is_ok g c =
    let old = g.W.Sink.contents c.args.out.now in
    let new = g.W.Sink.contents c.write_bytes.new.out in
    let refused = sym c.is_ok.ensures.value ∙ c.if-is_ok.false in
    let written = at_err c.write_bytes.result c.write_bytes.ensures.err refused in
    let mail = subst (λ (t : List ℕ). AppendsFront old new t) c.as_slice.ensures.value written in
    let up = at_err c.write_bytes.result c.write_bytes.ensures.failed refused in
    record {
      taken = c.in-Ok.ensures.taken;
      status = inr (inr refl);
      read = inl c.in-Ok.ensures.flag;
      written = inr (refl, c.tell.ensures);
      stands = λ e. absurd (omega (arith, e));
      done = λ e. absurd (omega (arith, e));
      refused = λ e. absurd (omega (arith, e));
      failed = λ _. inl (
        c.tell.ensures,
        inr (
          up,
          is_front_delivered (g.R.Source.remaining c.args.input.now) c.args.words.now old new c.in-Ok.mail.items
              c.in-Ok.ensures.relayed_as mail,
        ),
      );
    }

pub returns-in_default : goal.returns-in_default
returns-in_default g c =
    let fault = c.in-Err-Token.fault in
    let ran = rw c.in-Err-Token.field-0-is at c.in-Err-Token.ensures in
    record {
      taken = ran.taken;
      status = inr (inl refl);
      read = inl (same_flag (Vec ℕ Global) fault _ _ c.in_default.not-Read ran.flag);
      written = inl refl;
      stands = λ _. was_to_end (Vec ℕ Global) fault c.in_default.not-Read ran.stands;
      done = λ e. absurd (omega (arith, e));
      refused = λ _. (
        Keeps-refl (g.W.Sink.contents c.args.out.now),
        Token fault,
        is_refused view (g.R.Source.remaining c.args.input.now) c.args.words.now
            (Token fault) (not_read fault c.in_default.not-Read) (λ e. cc)
            ran.relayed_as,
        c.tell_refusal.ensures,
      );
      failed = λ e. absurd (omega (arith, e));
    }

pub returns-in-Err-Envelope : goal.returns-in-Err-Envelope
returns-in-Err-Envelope g c =
    let fault = c.in-Err-Envelope.fault in
    let ran = rw c.in-Err-Envelope.field-0-is at c.in-Err-Envelope.ensures in
    record {
      taken = ran.taken;
      status = inr (inl refl);
      read = inl ran.flag;
      written = inl refl;
      stands = λ _. ran.stands;
      done = λ e. absurd (omega (arith, e));
      refused = λ _. (
        Keeps-refl (g.W.Sink.contents c.args.out.now),
        Envelope fault,
        is_refused view (g.R.Source.remaining c.args.input.now) c.args.words.now (Envelope fault) refl (λ e. cc) ran.relayed_as,
        c.tell_refusal-in-Err-Envelope.ensures,
      );
      failed = λ e. absurd (omega (arith, e));
    }
