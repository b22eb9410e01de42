-- The members that a field to match may have (API type `FieldToMatch`).
use Rattle.std.specs.Prelude.{ℕ, List, codes, if◌then◌else◌, Option, Some, None}
use Rattle.serde_json.specs.Data.{Data}
use Rattle.json_view.specs.Words.{is_there}
use Rattle.statement_json.specs.declared.field_name.FieldName.{FieldName}
use Rattle.statement_json.specs.declared.field_name.FieldName.TheVariants.{UriPath, QueryString, Method, AllQueryArguments, JsonBody, SingleHeader, SingleQueryArgument, Body, Headers, Cookies}

-- the member's name
abbrev pub member_of : FieldName → List ℕ
member_of UriPath = codes "UriPath"
member_of QueryString = codes "QueryString"
member_of Method = codes "Method"
member_of AllQueryArguments = codes "AllQueryArguments"
member_of JsonBody = codes "JsonBody"
member_of SingleHeader = codes "SingleHeader"
member_of SingleQueryArgument = codes "SingleQueryArgument"
member_of Body = codes "Body"
member_of Headers = codes "Headers"
member_of Cookies = codes "Cookies"

-- which of the members with members of their own is there
abbrev pub list_name_of : Data → Option FieldName
list_name_of d =
    if is_there (codes "SingleHeader") d then Some SingleHeader
    else if is_there (codes "SingleQueryArgument") d then Some SingleQueryArgument
    else if is_there (codes "Body") d then Some Body
    else if is_there (codes "Headers") d then Some Headers
    else if is_there (codes "Cookies") d then Some Cookies
    else None

-- which of the members is there
unfoldable pub field_name_of : Data → Option FieldName
field_name_of d =
    if is_there (codes "UriPath") d then Some UriPath
    else if is_there (codes "QueryString") d then Some QueryString
    else if is_there (codes "Method") d then Some Method
    else if is_there (codes "AllQueryArguments") d then Some AllQueryArguments
    else if is_there (codes "JsonBody") d then Some JsonBody
    else list_name_of d
