use Rattle.std.proofs.Common.{nat_eq, ap, ◌∙◌}
use Rattle.std.specs.Str.{bytes_eq}
use Rattle.hub_register.proofs.Compared.{none_differs}
use Rattle.hub_register.proofs.register.is_key.Goals as goal

pub returns-then-own-bytes : goal.returns-then-own-bytes
returns-then-own-bytes c =
    let own = c.bytes-own.result.now in
    let bytes = c.args.bytes.now in
    ap (λ n. nat_eq n 0) c.differing.ensures
    ∙ none_differs own bytes c.if-own-bytes.true
    ∙ ap (λ key. bytes_eq key bytes) c.bytes-own.ensures.value
