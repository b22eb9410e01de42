-- How immunity times are read (API types `CaptchaConfig`, `ChallengeConfig` and `ImmunityTimeProperty`).
use Rattle.std.specs.Prelude.{ℕ, List, codes, Option, Some, None, Result, Ok}
use Rattle.serde_json.specs.Data.{Data}
use Rattle.json_view.specs.Words.{whole_member_at}
use Rattle.waf_model.specs.Gives.{◌>>=◌}
use Rattle.waf_model.specs.Json.{member_path, optional_at}
use Rattle.waf_model.specs.declared.read_fault.ReadFault.{ReadFault}

-- `ImmunityTime`, in seconds
abbrev pub property_of : Option Data → List ℕ → Result (Option ℕ) ReadFault
property_of None path = Ok None
property_of (Some found) path = whole_member_at found (codes "ImmunityTime") 1 1000000000 path >>= λ time. Ok (Some time)

-- `ImmunityTimeProperty`; without it there is no time of its own
abbrev pub config_of : Option Data → List ℕ → Result (Option ℕ) ReadFault
config_of None path = Ok None
config_of (Some found) path = optional_at found (codes "ImmunityTimeProperty") path >>= λ property. property_of property (member_path path (codes "ImmunityTimeProperty"))

-- the immunity time in the member of that name
abbrev pub immunity_at : List ℕ → Data → List ℕ → Result (Option ℕ) ReadFault
immunity_at name d path = optional_at d name path >>= λ found. config_of found (member_path path name)
