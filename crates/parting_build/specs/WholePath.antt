-- Which byte matches ask for the whole path as it stands (this project's own).
use Rattle.std.specs.Prelude.{List, Bool, true, false, ◌&&◌}
use Rattle.std.specs.List.{list_all}
use Rattle.waf_model.specs.declared.field.Field.{Field}
use Rattle.waf_model.specs.declared.field.Field.TheVariants.{UriPath}
use Rattle.waf_model.specs.declared.matching.Position.{Position}
use Rattle.waf_model.specs.declared.matching.Position.TheVariants.{Exactly}
use Rattle.waf_model.specs.declared.transform.Transform.{Transform}
use Rattle.waf_model.specs.declared.transform.Transform.TheVariants.{KeepAll}

abbrev pub is_uri_path : Field → Bool
is_uri_path UriPath = true
is_uri_path field = false

abbrev pub is_exactly : Position → Bool
is_exactly Exactly = true
is_exactly position = false

-- the transformation is NONE
abbrev pub keeps_all : Transform → Bool
keeps_all KeepAll = true
keeps_all transform = false

-- a byte match of the whole path: EXACTLY on UriPath, whose transformations are all NONE
abbrev pub is_whole_path : Field → List Transform → Position → Bool
is_whole_path field transforms position = is_uri_path field && (is_exactly position && list_all keeps_all transforms)
