-- How the lists of a bundle are read: an element that holds an object under the name of its type, as the API's get calls
-- answer it, stands for that object.
use Rattle.std.specs.Prelude.{ℕ, ◌+◌, List, [], ◌∷◌, codes, if◌then◌else◌, Option, Some, None, Result, Ok}
use Rattle.serde_json.specs.Data.{Data}
use Rattle.serde_json.specs.Find.{get}
use Rattle.json_view.specs.Words.{each_of, optional_list_at}
use Rattle.statement_json.specs.declared.encoding.Encoding.{Encoding}
use Rattle.waf_model.specs.Gives.{◌>>=◌}
use Rattle.waf_model.specs.Json.{index_path, is_object, member_path, present}
use Rattle.waf_model.specs.declared.group.Group.{Group}
use Rattle.waf_model.specs.declared.group.ManagedCapacity.{ManagedCapacity}
use Rattle.waf_model.specs.declared.read_fault.ReadFault.{ReadFault}
use Rattle.waf_model.specs.declared.sets.IpSet.{IpSet}
use Rattle.waf_model.specs.declared.sets.RegexSet.{RegexSet}
use Rattle.acl_json.specs.WebAcls.{group_of}
use Rattle.set_json.specs.Sets.{ip_set_of, managed_capacity_of, regex_set_of}

-- the object that an element holds under that name, if it holds one
abbrev pub object_among : Option Data → Option Data
object_among None = None
object_among (Some found) = if is_object found then Some found else None

abbrev pub wrapped : List ℕ → Data → Option Data
wrapped name d = object_among (present (get name d))

-- what is read of that object at its path, or else of the element itself
abbrev pub unwrapped : {R : Type 0} → (Data → List ℕ → R) → Option Data → List ℕ → Data → List ℕ → R
unwrapped read None at d path = read d path
unwrapped read (Some found) at d path = read found at

-- an element of `IPSets`
unfoldable pub ip_set_at : Data → List ℕ → Result IpSet ReadFault
ip_set_at d path = unwrapped ip_set_of (wrapped (codes "IPSet") d) (member_path path (codes "IPSet")) d path

-- an element of `RegexPatternSets`
unfoldable pub regex_set_at : Data → List ℕ → Result RegexSet ReadFault
regex_set_at d path = unwrapped regex_set_of (wrapped (codes "RegexPatternSet") d) (member_path path (codes "RegexPatternSet")) d path

-- an element of `RuleGroups`, among these pattern sets, after so many statements; and how many were read then
unfoldable pub group_at : List RegexSet → Encoding → Data → List ℕ → ℕ → Result (Group × ℕ) ReadFault
group_at sets encoding d path seen =
    unwrapped (λ found at. group_of sets encoding found at seen) (wrapped (codes "RuleGroup") d) (member_path path (codes "RuleGroup")) d path

-- `IPSets`
unfoldable pub ip_sets_at : Data → List ℕ → Result (List IpSet) ReadFault
ip_sets_at d path = optional_list_at d (codes "IPSets") path >>= λ all. each_of ip_set_at all (member_path path (codes "IPSets"))

-- `RegexPatternSets`
unfoldable pub regex_sets_at : Data → List ℕ → Result (List RegexSet) ReadFault
regex_sets_at d path = optional_list_at d (codes "RegexPatternSets") path >>= λ all. each_of regex_set_at all (member_path path (codes "RegexPatternSets"))

-- `ManagedCapacities`
unfoldable pub managed_capacities_at : Data → List ℕ → Result (List ManagedCapacity) ReadFault
managed_capacities_at d path = optional_list_at d (codes "ManagedCapacities") path >>= λ all. each_of managed_capacity_of all (member_path path (codes "ManagedCapacities"))

-- rule groups of a list, the first of them at that index, after so many statements; and how many were read then
abbrev pub groups_from : List RegexSet → Encoding → ℕ → List Data → List ℕ → ℕ → Result (List Group × ℕ) ReadFault
groups_from sets encoding index [] path seen = Ok ([], seen)
groups_from sets encoding index (d ∷ ds) path seen = do
  group ← group_at sets encoding d (index_path path index) seen
  rest ← groups_from sets encoding (index + 1) ds path group.1
  Ok (group.0 ∷ rest.0, rest.1)

-- `RuleGroups`
unfoldable pub groups_at : List RegexSet → Encoding → Data → List ℕ → ℕ → Result (List Group × ℕ) ReadFault
groups_at sets encoding d path seen =
    optional_list_at d (codes "RuleGroups") path >>= λ all. groups_from sets encoding 0 all (member_path path (codes "RuleGroups")) seen
