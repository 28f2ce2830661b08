use Rattle.std.proofs.Common.{codes, ap, sym, ◌∙◌}
use Rattle.hub_journal.specs.Front.{kept}
use Rattle.hub_journal.proofs.Kept.{keep_none, then_keep}
use Rattle.hub_journal.proofs.Lines.{spaced_none, spaced_some}
use Rattle.hub_journal.proofs.line.keep_spaced.Goals as goal

pub returns-then-not-is_empty : goal.returns-then-not-is_empty
returns-then-not-is_empty c =
    let line = c.args.line.now in
    let text = c.args.text.now in
    then_keep line (codes " ") c.keep.new.self text c.keep-then-not-is_empty.new.self c.keep.ensures
    c.keep-then-not-is_empty.ensures
    ∙ ap (kept line) (sym (spaced_some text (sym c.is_empty.ensures ∙ c.if-not-is_empty.true)))

pub returns-else-not-is_empty : goal.returns-else-not-is_empty
returns-else-not-is_empty c =
    let line = c.args.line.now in
    let text = c.args.text.now in
    sym (keep_none line) ∙ ap (kept line) (sym (spaced_none text (sym c.is_empty.ensures ∙ c.if-not-is_empty.false)))
