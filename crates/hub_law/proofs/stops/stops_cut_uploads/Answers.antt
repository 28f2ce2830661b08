use Rattle.hub_tables.specs.Register.{register_of}
use Rattle.hub_law.proofs.Cutting.{whole_upload, behind_some, too_far_behind, no_upload}
use Rattle.hub_law.proofs.stops.stops_cut_uploads.Goals as goal

pub returns-clause-whole : goal.returns-clause-whole
returns-clause-whole c t = whole_upload (register_of t) t

pub returns-clause-behind : goal.returns-clause-behind
returns-clause-behind c t = behind_some (register_of t) t

pub returns-clause-too_far : goal.returns-clause-too_far
returns-clause-too_far c t = too_far_behind (register_of t) t

pub returns-clause-no_upload : goal.returns-clause-no_upload
returns-clause-no_upload c t input k h = no_upload (register_of t) t k input h
