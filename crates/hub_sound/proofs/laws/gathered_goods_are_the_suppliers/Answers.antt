use Rattle.hub_sound.proofs.Gathering.{tells_supplier}
use Rattle.hub_sound.proofs.laws.gathered_goods_are_the_suppliers.Goals as goal

pub returns : goal.returns
returns c gln t found rising = tells_supplier gln t rising found
