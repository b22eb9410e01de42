-- How the elements that a web ACL refers to are read: address sets, pattern sets, capacities of managed rule groups (API
-- types `IPSet` and `RegexPatternSet`; the capacities are this project's own).
use Rattle.std.specs.Prelude.{ℕ, List, [], ◌∷◌, codes, Bool, true, false, is_some, not, Option, Some, None, Result, Ok, Err, filter_map}
use Rattle.std.specs.List.{list_any}
use Rattle.serde_json.specs.Data.{Data}
use Rattle.json_view.specs.Words.{each_of, limited, list_member_at, optional_text_at, text_member_at, whole_member_at, word_at}
use Rattle.pattern_read.specs.Spelled.{pattern_spelled}
use Rattle.statement_json.specs.Matches.{arn_at, regex_at}
use Rattle.waf_model.specs.AddressText.{range_of}
use Rattle.waf_model.specs.Gives.{◌>>=◌}
use Rattle.waf_model.specs.Json.{member_path, text_at}
use Rattle.waf_model.specs.declared.address.Cidr.{Cidr}
use Rattle.waf_model.specs.declared.group.ManagedCapacity.{ManagedCapacity}
use Rattle.waf_model.specs.declared.read_fault.ReadFault.{ReadFault}
use Rattle.waf_model.specs.declared.read_fault.ReadFault.TheVariants as faults
use Rattle.waf_model.specs.declared.sets.IpSet.{IpSet}
use Rattle.waf_model.specs.declared.sets.RegexSet.{RegexSet}

-- ---- address sets

-- the words of `IPAddressVersion`; true is IPv6
abbrev pub version_words : List (List ℕ × Bool)
version_words = (codes "IPV4", false) ∷ (codes "IPV6", true) ∷ []

-- `IPAddressVersion`
unfoldable pub version_at : Data → List ℕ → Result Bool ReadFault
version_at d path = word_at d (codes "IPAddressVersion") version_words path

-- a range that was spelled
abbrev pub spelled_range : Option Cidr → List ℕ → Result Cidr ReadFault
spelled_range None path = Err (faults.Address path)
spelled_range (Some range) path = Ok range

-- a text that spells a range of that version
abbrev pub range_at : Bool → Data → List ℕ → Result Cidr ReadFault
range_at v6 d path = text_at d path >>= λ text. spelled_range (range_of v6 text) path

-- an address set has at most so many addresses (this project's own)
abbrev pub most_addresses : ℕ
most_addresses = 10000

abbrev pub ranges_of : Bool → List Data → List ℕ → Result (List Cidr) ReadFault
ranges_of v6 all path = limited most_addresses all path >>= λ few. each_of (range_at v6) few path

-- `Addresses`
unfoldable pub ranges_at : Bool → Data → List ℕ → Result (List Cidr) ReadFault
ranges_at v6 d path = list_member_at d (codes "Addresses") path >>= λ all. ranges_of v6 all (member_path path (codes "Addresses"))

-- `ARN`, `IPAddressVersion` and `Addresses`
unfoldable pub ip_set_of : Data → List ℕ → Result IpSet ReadFault
ip_set_of d path = do
  arn ← arn_at d path
  v6 ← version_at d path
  ranges ← ranges_at v6 d path
  Ok (record { arn = arn; ranges = ranges })

-- ---- pattern sets

-- a pattern set has at most so many patterns (this project's own)
abbrev pub most_patterns : ℕ
most_patterns = 100

abbrev pub texts_of : List Data → List ℕ → Result (List (List ℕ)) ReadFault
texts_of all path = limited most_patterns all path >>= λ few. each_of regex_at few path

-- `RegularExpressionList`, each with its `RegexString`
unfoldable pub texts_at : Data → List ℕ → Result (List (List ℕ)) ReadFault
texts_at d path = list_member_at d (codes "RegularExpressionList") path >>= λ all. texts_of all (member_path path (codes "RegularExpressionList"))

-- the pattern set of that ARN and these texts: the patterns of those that are of the subset, and whether one is not
abbrev pub set_of_texts : List ℕ → List (List ℕ) → RegexSet
set_of_texts arn texts =
    record { arn = arn; texts = texts; patterns = filter_map pattern_spelled texts; outside = list_any (λ text. not (is_some (pattern_spelled text))) texts }

-- `ARN` and `RegularExpressionList`
unfoldable pub regex_set_of : Data → List ℕ → Result RegexSet ReadFault
regex_set_of d path = do
  arn ← arn_at d path
  texts ← texts_at d path
  Ok (set_of_texts arn texts)

-- ---- capacities

-- the greatest capacity of a managed rule group (this project's own)
abbrev pub greatest_capacity : ℕ
greatest_capacity = 1000000

-- `VendorName`, `Name`, `Version` and `Capacity`
unfoldable pub managed_capacity_of : Data → List ℕ → Result ManagedCapacity ReadFault
managed_capacity_of d path = do
  vendor ← text_member_at d (codes "VendorName") path
  name ← text_member_at d (codes "Name") path
  version ← optional_text_at d (codes "Version") path
  capacity ← whole_member_at d (codes "Capacity") 0 greatest_capacity path
  Ok (record { vendor = vendor; name = name; version = version; capacity = capacity })
