use Rattle.std.proofs.Common.{◌≡◌, ◌+◌, ◌∷◌, [], sym, ◌∙◌, ap, ap₂}
use Rattle.std.proofs.lemmas.Result.{IfOk-weaker}
use Rattle.hub_tables.specs.declared.cases.MailKind.TheVariants as kinds
use Rattle.hub_tables.specs.declared.cases.Side.TheVariants as sides
use Rattle.hub_tables.specs.declared.change.Change.{Change}
use Rattle.hub_tables.specs.declared.change.Change.TheVariants.{Remember}
use Rattle.hub_rules.specs.Judging.{joined}
use Rattle.hub_rules.specs.MailboxRules.{mail_entry}
use Rattle.hub_rules.specs.RepeatRules.{remembered}
use Rattle.hub_rules.specs.Rules.{referred_by}
use Rattle.hub_judges.specs.FromFacts.{no_sscc, receipts_from}
use Rattle.hub_judges.proofs.receipt.judge_receipt.Goals as goal

pub returns : goal.returns
returns c =
    let incoming = c.args.incoming in
    let body = c.args.body in
    let receipt = c.args.receipt.now in
    let known = c.args.known.now in
    let s = c.in-Ok.row.now in
    let memory : Change = Remember (remembered (referred_by s sides.Retailer incoming) incoming.content) in
    let entry : Change = mail_entry s.gln (known.mails + 1) incoming kinds.Receipt receipt.number body in
    let changes : c.in_ok-changes.changes ≡ memory ∷ entry ∷ [] =
    c.in_ok-changes.ensures
    ∙ ap (λ number. memory ∷ mail_entry s.gln (known.mails + 1) incoming kinds.Receipt number body ∷ []) c.as_slice-number.ensures in
    IfOk-weaker c.judge_units.result (λ verdict.
    verdict ≡ joined c.in_ok-changes.changes
    (receipts_from receipt.replaces no_sscc c.as_slice-units.result.now c.as_slice-pallets.result.now)) _
    (λ verdict judged state told.
    judged
    ∙ ap (λ all. joined all (receipts_from receipt.replaces no_sscc c.as_slice-units.result.now c.as_slice-pallets.result.now)) changes
    ∙ ap₂ (λ units pallets. joined (memory ∷ entry ∷ [])
    (receipts_from receipt.replaces no_sscc units pallets)) c.as_slice-units.ensures c.as_slice-pallets.ensures
    ∙ sym (c.in-Ok.ensures.ok incoming body state told)) c.judge_units.ensures
