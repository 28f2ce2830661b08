use Rattle.std.proofs.Common.{◌++◌, List, ℕ, ap, ◌∙◌}
use Rattle.hub_texts.proofs.LineTexts.{balanced_texts}
use Rattle.hub_texts.proofs.lines.with_lines.Goals as goal

pub returns : goal.returns
returns c = λ state all.
    c.in_ok-put_rows.ensures
    ∙ ap (λ (text : List ℕ). c.args.text.items ++ text) (balanced_texts state c.args.lines.now all)
