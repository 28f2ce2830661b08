use Rattle.std.proofs.Common.{◌++◌, [], ◌∷◌, List, ℕ, ap₂, ◌∙◌}
use Rattle.std.specs.List.{flat_map}
use Rattle.hub_store.specs.declared.mail.MailHead.{MailHead}
use Rattle.hub_law.specs.Widths.{line}
use Rattle.hub_texts.specs.Heads.{head_line}
use Rattle.hub_texts.proofs.MailTexts.{list_of_first}
use Rattle.hub_texts.proofs.mail.list_text.Goals as goal

pub returns : goal.returns
returns c = λ all h.
    c.from_vec.ensures ∙ c.in_ok-put_line.ensures
    ∙ ap₂ (λ (items word : List ℕ). items ++ line (word ∷ [])) (c.in_ok-put_heads.ensures
    ∙ ap₂ (λ (items : List ℕ) (heads : List MailHead). items ++ flat_map head_line heads) c.new-out.ensures.items
    c.listed_heads.ensures)
    (c.as_bytes.ensures.value ∙ c.last_word.ensures)
    ∙ list_of_first all c.args.heads.now h
