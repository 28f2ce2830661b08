-- The text of a register, by what was read.
use Rattle.std.proofs.Common.{◌≡◌, ℕ, ◌+◌, ◌<◌, ◌≤◌, List, length, take, Option, Some, None, Result, Ok, Err, IsUtf8, sym}
use Rattle.std.proofs.Common.{ap, ◌∙◌, subst, arith}
use Rattle.std.specs.Prelude.{IfSome}
use Rattle.std.proofs.lemmas.List.{length-take, take_all}
use Rattle.hub_parties.specs.Rows.{RegisterRows}
use Rattle.hub_register.specs.declared.fault.RegisterFault.{RegisterFault}
use Rattle.edi_segments.specs.Spelling.{text_limit}
use Rattle.hub_commands.specs.Check.{IsRegisterText, check_status}
use Rattle.edi_relay.specs.Run.{read_limit}

-- what was read up to a limit that it does not reach is all
all_read : (limit : ℕ) (bytes read : List ℕ) → read ≡ take (limit + 1) bytes → length read ≤ limit → read ≡ bytes
all_read limit bytes read is fits = is ∙ take_all (limit + 1) bytes (omega (arith, length-take (limit + 1) bytes, ap length is, fits))

pub whole : (known : Option (List ℕ)) (read : List ℕ)
    → IfSome known (λ bytes. read ≡ take read_limit bytes)
    → length read ≤ text_limit
    → IfSome known (λ bytes. bytes ≡ read)
whole None read is fits = tt
whole (Some bytes) read is fits = sym (all_read text_limit bytes read is fits)

pub too_long : (known : Option (List ℕ)) (read : List ℕ)
    → IfSome known (λ bytes. read ≡ take read_limit bytes)
    → text_limit < length read
    → IfSome known (λ bytes. ¬ IsRegisterText bytes)
too_long None read is long = tt
too_long (Some bytes) read is long = λ text. absurd (omega (arith, text.fits, length-take read_limit bytes, ap length is, long))

pub no_utf8 : (known : Option (List ℕ)) (read : List ℕ)
    → IfSome known (λ bytes. read ≡ take read_limit bytes)
    → length read ≤ text_limit
    → (IsUtf8 read → ⊥)
    → IfSome known (λ bytes. ¬ IsRegisterText bytes)
no_utf8 None read is fits none = tt
no_utf8 (Some bytes) read is fits none = λ text. none (subst IsUtf8 (sym (all_read text_limit bytes read is fits)) text.utf8)

-- a report has the status 0 or 1
pub never_failed : (verdict : Result RegisterRows RegisterFault) → check_status verdict ≡ 3 → ⊥
never_failed (Ok rows) e = cc
never_failed (Err fault) e = cc
