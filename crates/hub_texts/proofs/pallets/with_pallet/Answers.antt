use Rattle.std.proofs.Common.{◌++◌, List, ℕ, ap, ◌∙◌}
use Rattle.std.specs.List.{flat_map}
use Rattle.hub_texts.specs.Totals.{article_line}
use Rattle.hub_texts.proofs.PalletTexts.{text_is}
use Rattle.hub_texts.proofs.pallets.with_pallet.Goals as goal

pub returns-clause-text : goal.returns-clause-text
returns-clause-text c = λ state on of_contents of_receipts.
    let pallet = c.args.pallet.now in
    let text = ap (flat_map (article_line pallet)) c.in_ok-articles.ensures.ok
    ∙ text_is state c.args.lines.now pallet c.args.contents.now c.args.receipts.now on of_contents of_receipts in
    c.in_ok-put_articles.ensures ∙ ap (λ (text : List ℕ). c.args.text.items ++ text) text
