use Rattle.std.proofs.Common.{◌<◌, arith, rules}
use Rattle.std.specs.Char.{IsAsciiDigit}
use Rattle.std.specs.Str.{IsUtf8}
use Rattle.std.proofs.lemmas.List.Elements.{All-weaker}
use Rattle.std.proofs.lemmas.Str.{IsUtf8-from_ascii}
use Rattle.std.proofs.lemmas.Str.Ascii.{IsAscii-from_all}
use Rattle.gs1_ids.proofs.digits.write_digits.Goals as goal

pub unwrap-text-requires : goal.unwrap-text-requires
unwrap-text-requires g c =
    let text : IsUtf8 c.args.digits.now =
    IsUtf8-from_ascii _ (IsAscii-from_all _ (All-weaker IsAsciiDigit (λ b. b < 128) (λ b digit. omega arith) _ c.requires)) in
    search rules
