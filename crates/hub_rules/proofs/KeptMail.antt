-- Shows that mailbox entries keep their numbers when they are set.
use Rattle.std.proofs.Common.{ℕ, ◌+◌, cond, inl, inr, List, [], ◌∷◌, refl, sym, ◌∙◌, ap}
use Rattle.hub_tables.specs.Change.{apply}
use Rattle.hub_parties.specs.KeyOrder.{replace}
use Rattle.hub_tables.specs.Rows.{same_mail}
use Rattle.hub_tables.specs.Tables.{Tables}
use Rattle.hub_tables.specs.declared.change.Change.TheVariants.{SetMail}
use Rattle.hub_tables.specs.declared.rows.MailRow.{MailRow}
use Rattle.hub_tables.proofs.KindOrders.{mail_key}
use Rattle.hub_tables.proofs.Lists.{decide}
use Rattle.hub_rules.specs.Sound.{Numbered, Kept}
use Rattle.hub_rules.proofs.Keeping.{kept_others}

numbered_set : (n : ℕ) (entries : List MailRow) (r : MailRow) → Numbered n entries → Numbered n (replace (same_mail r) r entries)
numbered_set n [] r a = tt
numbered_set n (entry ∷ entries) r a = (
  elim (decide (same_mail r entry)) [
    | inl e ↦ ap (λ v. (cond v r entry).number) e ∙ sym (mail_key r entry e).1 ∙ a.0
    | inr e ↦ ap (λ v. (cond v r entry).number) e ∙ a.0
  ],
  numbered_set (n + 1) entries r a.1,
)

pub kept_set_mail : (state : Tables) (r : MailRow) → Kept state → Kept (apply (SetMail r) state)
kept_set_mail state r kept =
    kept_others state kept refl kept.advices kept.remembered (numbered_set 0 state.mail r kept.mail)
