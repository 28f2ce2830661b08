-- Proves what a message does, from what is read of it.
use Rattle.std.proofs.Common.{◌≡◌, Ok, sym, ap}
use Rattle.hub_tables.specs.Tables.{Tables}
use Rattle.hub_rules.specs.declared.verdict.Verdict.{Verdict}
use Rattle.hub_acts.specs.HubLaw.Told.{read_act}
use Rattle.hub_transactions.specs.Judged.{act_of}
use Rattle.hub_transactions.specs.declared.judged.Judged.{Judged}
use Rattle.hub_transactions.specs.declared.judged.Judged.TheVariants.{Read}

-- a message that was read is decided on by its verdict
pub act_decided : {X : Type 0} (judge : X → Verdict) (read : X) (judged : Judged) (t : Tables)
    → judged ≡ Read (judge read)
    → read_act (Ok read) judge t ≡ act_of judged t
act_decided judge read judged t is = ap (λ j. act_of j t) (sym is)
