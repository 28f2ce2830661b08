use Rattle.std.proofs.Common.{◌≡◌, true, false, refl, sym, subst}
use Rattle.gs1_ids.specs.Digits.{is_key}
use Rattle.hub_rows.proofs.Unclean.{passed, failed}
use Rattle.hub_rows.proofs.values.gln_at.Goals as goal

pub returns-in-Some-clause-right : goal.returns-in-Some-clause-right
returns-in-Some-clause-right c =
    subst (λ d. is_key 13 d ≡ true) (sym c.in-Some.ensures.exact.1)
    (passed (is_key 13 c.in_ok-digits.digits.now) _ _ c.in-Some.ensures.value)

pub returns-in-None-clause-unclean : goal.returns-in-None-clause-unclean
returns-in-None-clause-unclean c = (
  refl,
  subst (λ d. is_key 13 d ≡ false) c.in_ok-digits.ensures.ok
      (failed (is_key 13 c.in_ok-digits.digits.now) _ c.in-None.ensures.value),
)
