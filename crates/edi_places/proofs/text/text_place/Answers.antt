use Rattle.std.proofs.Common.{ℕ, List, ◌∙◌, ap}
use Rattle.edi_segments.specs.Reading.{start}
use Rattle.edi_places.specs.Text.{place_behind, front, reached}
use Rattle.edi_places.proofs.Stopping.{longest}
use Rattle.edi_places.proofs.text.text_place.Goals as goal

pub returns : goal.returns
returns c =
    c.stop_in.ensures
    ∙ ap (λ (bytes : List ℕ). place_behind (front start bytes) (reached start bytes)) (longest c.args.text.now c.min.result c.min.ensures)
