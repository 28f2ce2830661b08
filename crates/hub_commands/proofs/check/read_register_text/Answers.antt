use Rattle.std.proofs.Common.{◌≡◌, length, inr, sym, ap, subst, arith, string_bytes, rules}
use Rattle.std.specs.Prelude.{IfSome}
use Rattle.std.proofs.lemmas.Bool.{false≢true}
use Rattle.std.proofs.lemmas.Str.{IsUtf8-string_bytes}
use Rattle.hub_commands.proofs.RegisterTexts.{whole, too_long, no_utf8}
use Rattle.hub_commands.proofs.check.read_register_text.Goals as goal

pub returns-then-len-gt-TEXT_LIMIT-clause-file : goal.returns-then-len-gt-TEXT_LIMIT-clause-file
returns-then-len-gt-TEXT_LIMIT-clause-file g c = λ _.
    inr (too_long (g.R.Source.remaining c.args.input.now) c.in_ok-bytes.bytes.items c.in_ok-bytes.ensures.whole
    (omega (arith, c.len.ensures, c.if-len-gt-TEXT_LIMIT.true)))

pub returns-in-Ok-clause-text : goal.returns-in-Ok-clause-text
returns-in-Ok-clause-text g c =
    let same : string_bytes c.in-Ok.text ≡ c.in_ok-bytes.bytes.items = ap (λ v. v.items) c.in-Ok.ensures.ok in
    record { fits = omega (arith, ap length same, c.len.ensures, c.if-len-gt-TEXT_LIMIT.false); utf8 = IsUtf8-string_bytes c.in-Ok.text }

pub returns-in-Ok-clause-whole : goal.returns-in-Ok-clause-whole
returns-in-Ok-clause-whole g c =
    let same : string_bytes c.in-Ok.text ≡ c.in_ok-bytes.bytes.items = ap (λ v. v.items) c.in-Ok.ensures.ok in
    subst (λ read. IfSome (g.R.Source.remaining c.args.input.now) (λ bytes. bytes ≡ read)) (sym same)
    (whole (g.R.Source.remaining c.args.input.now) c.in_ok-bytes.bytes.items c.in_ok-bytes.ensures.whole
    (omega (arith, c.len.ensures, c.if-len-gt-TEXT_LIMIT.false)))

pub returns-clause-file : goal.returns-clause-file
returns-clause-file g c = λ _.
    inr (no_utf8 (g.R.Source.remaining c.args.input.now) c.in_ok-bytes.bytes.items c.in_ok-bytes.ensures.whole
    (omega (arith, c.len.ensures, c.if-len-gt-TEXT_LIMIT.false)) (λ utf8. false≢true (c.in-Err.ensures.succeeds utf8)))

pub returns-in-Ok-clause-kept : goal.returns-in-Ok-clause-kept
returns-in-Ok-clause-kept c = search rules
