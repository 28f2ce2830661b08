use Rattle.std.proofs.Common.{◌≡◌, ◌∙◌, sym, ap, ap₂, Bool, true, false}
use Rattle.hub_rules.specs.Judging.{refuse_if}
use Rattle.hub_rules.specs.JoinRules.{judge_join, is_full}
use Rattle.hub_rules.specs.declared.code.Code.TheVariants.{GlnKnown, PrefixOverlaps, RegisterFull}
use Rattle.hub_rules.specs.declared.verdict.Verdict.{Verdict}
use Rattle.hub_rules.specs.declared.verdict.Verdict.TheVariants.{Accept, Refuse}
use Rattle.hub_tables.specs.Register.{row_changes}
use Rattle.hub_judges.proofs.join.judge_join.Goals as goal

-- the checks in their order
abbrev checks : Bool → Bool → Bool → Verdict → Verdict
checks known overlaps full rest = refuse_if known GlnKnown (refuse_if overlaps PrefixOverlaps (refuse_if full RegisterFull rest))

second : {known overlaps : Bool} (full : Bool) (rest : Verdict) → known ≡ false →
    overlaps ≡ true → checks known overlaps full rest ≡ Refuse PrefixOverlaps
second full rest a b = ap₂ (λ known overlaps. checks known overlaps full rest) a b

third : {known overlaps full : Bool} (rest : Verdict) → known ≡ false →
    overlaps ≡ false → full ≡ true → checks known overlaps full rest ≡ Refuse RegisterFull
third rest a b c = λ i. checks (a i) (b i) (c i) rest

none : {known overlaps full : Bool} (rest : Verdict) → known ≡ false →
    overlaps ≡ false → full ≡ false → checks known overlaps full rest ≡ rest
none rest a b c = λ i. checks (a i) (b i) (c i) rest

pub returns-then-overlaps : goal.returns-then-overlaps
returns-then-overlaps c =
    let row = c.row-row.result.now in
    sym (second (is_full c.args.register.now) (Accept (row_changes row)) (sym c.if-knows.ensures) (sym c.if-overlaps.ensures))
    ∙ ap (judge_join c.args.register.now) c.row-row.ensures.value

pub returns-then-is_full : goal.returns-then-is_full
returns-then-is_full c =
    let row = c.row-row.result.now in
    sym (third (Accept (row_changes row)) (sym c.if-knows.ensures) (sym c.if-overlaps.ensures) (sym c.if-is_full.ensures))
    ∙ ap (judge_join c.args.register.now) c.row-row.ensures.value

pub returns : goal.returns
returns c =
    let row = c.row-row.result.now in
    ap Accept (c.from_vec.ensures ∙ c.in_ok-changes.ensures)
    ∙ sym (none (Accept (row_changes row)) (sym c.if-knows.ensures) (sym c.if-overlaps.ensures) (sym c.if-is_full.ensures))
    ∙ ap (judge_join c.args.register.now) c.row-row.ensures.value
