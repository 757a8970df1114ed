use Rattle.std.specs.Prelude.{ℕ, ◌≡◌, ◌+◌, ◌==◌, ◌⊎◌, List, [], ◌∷◌, length, map}
use Rattle.std.specs.Prelude.{Option, None, Some, if◌then◌else◌}
use Rattle.std.specs.List.{AllByRecursion, slice_split}
use Rattle.bi_base.specs.Limits.{Limits, IsInRange}
use Rattle.bi_blob.specs.Lookups.{Sibling, node_named, property_named, root_node, siblings}
use Rattle.bi_blob.specs.Tree.{FileNode, FileProperty}
use Rattle.bi_fit.specs.File.{FitMeans}
use Rattle.bi_fit.specs.ImageTree.{ImageTree}
use Rattle.bi_fit.specs.Payloads.{IsAt}
use Rattle.bi_c.specs.Arguments.{bounds}
use Rattle.bi_c.specs.Calls.{IsTreeFailure}
use Rattle.bi_c.specs.Checks.{LimitsCheck}
use Rattle.bi_c.specs.TreeRegions.{HasNameBytes, HasPropertyBytes, name_region_of}
use Rattle.bi_c.specs.TreeRegions.{property_name_region, value_region}
use Rattle.bi_c.specs.declared.failure.Failure.{Failure}
use Rattle.bi_c.specs.declared.properties.PropertyElement.{PropertyElement}
use Rattle.bi_c.specs.declared.region.Region.{Region}

-- What calls from C return of a node of a FIT: its properties and its children (Devicetree
-- Specification, 2.2; the rest is profile of this project).

-- The names in the bytes after the first slash of a path. A slash separates each two names. No
-- bytes have no name.
abbrev pub names_after_slash : List ℕ → List (List ℕ)
names_after_slash [] = []
names_after_slash (first ∷ rest) = slice_split (λ byte. byte == 47) (first ∷ rest)

-- The node that a list of names selects, from a node on: the first name selects a child of the
-- node, the second name a child of that child, and so on.
abbrev pub node_below : Option (Sibling FileNode) → List (List ℕ) → Option (Sibling FileNode)
node_below None names = None
node_below (Some found) [] = Some found
node_below (Some found) (name ∷ names) = node_below (node_named found.children name) names

-- The node at a path. A path is a slash, and then the names of the nodes from a child of the root
-- down to the node, with a slash between each two. The path of the root is one slash.
abbrev pub node_at_path : (root : Sibling FileNode) → (path : List ℕ) → Option (Sibling FileNode)
node_at_path root [] = None
node_at_path root (first ∷ rest) =
    if first == 47 then node_below (Some root) (names_after_slash rest) else None

-- The file means a tree within the limits. The tree has this node at the path.
pub record HasNodeAtPath (limits : Limits) (file path : List ℕ) (found : Sibling FileNode) : Type 0
  where
    pub tree : ImageTree
    pub means : FitMeans limits file tree
    pub is_found : node_at_path (root_node means.is_file.root) path ≡ Some found

-- The element of a property in a file.
abbrev pub element_of_property : (file : List ℕ) → FileProperty → PropertyElement
element_of_property file property =
    record { name = property_name_region file property; value = value_region property }

-- The elements are those of the properties of the node at the path, in their order. Their regions
-- have the names and the values.
pub record ArePropertyElements (limit depth : ℕ) (file path : List ℕ)
    (elements : List PropertyElement) (value : ℕ) : Type 0
  where
    pub limits : IsInRange limit depth
    pub found : Sibling FileNode
    pub is_found : HasNodeAtPath (bounds limit depth) file path found
    pub are_elements : elements ≡ map (element_of_property file) found.own.properties
    pub have_bytes : AllByRecursion (HasPropertyBytes file) found.own.properties
    pub no_value : value ≡ 0

-- The regions are those of the names of the children of the node at the path, in their order.
pub record AreChildRegions (limit depth : ℕ) (file path : List ℕ) (regions : List Region)
    (value : ℕ) : Type 0
  where
    pub limits : IsInRange limit depth
    pub found : Sibling FileNode
    pub is_found : HasNodeAtPath (bounds limit depth) file path found
    pub are_regions : regions ≡ map name_region_of (siblings found.children)
    pub have_bytes : AllByRecursion (HasNameBytes file) (siblings found.children)
    pub no_value : value ≡ 0

-- The value of the property with the given name, of the node at the path, has this size and is at
-- this offset in the file.
pub record IsValueAt (limit depth : ℕ) (file path name : List ℕ) (size offset : ℕ) : Type 0 where
  pub limits : IsInRange limit depth
  pub found : Sibling FileNode
  pub is_found : HasNodeAtPath (bounds limit depth) file path found
  pub property : FileProperty
  pub is_named : property_named found.own.properties name ≡ Some property
  pub is_size : size ≡ length property.value
  pub is_offset : offset ≡ property.place + 12
  pub is_there : IsAt file offset property.value

-- The file means a tree within the limits. The tree has no node at the path.
pub record LacksNode (limits : Limits) (file path : List ℕ) : Type 0 where
  pub tree : ImageTree
  pub means : FitMeans limits file tree
  pub is_lacking : node_at_path (root_node means.is_file.root) path ≡ None

-- The node at the path has no property with the given name.
pub record LacksProperty (limits : Limits) (file path name : List ℕ) : Type 0 where
  pub found : Sibling FileNode
  pub is_found : HasNodeAtPath limits file path found
  pub is_lacking : property_named found.own.properties name ≡ None

-- The numbers of the reason why there is no node at a path.
abbrev pub IsNodeReason : Limits → (file path : List ℕ) → (reason index : ℕ) → Type 0
IsNodeReason limits file path reason index =
    (reason ≡ 10) × (index ≡ 0) × LacksNode limits file path

-- The numbers of the reason why a node at a path has no property with a name.
abbrev pub IsPropertyReason : Limits → (file path name : List ℕ) → (reason index : ℕ) → Type 0
IsPropertyReason limits file path name reason index =
    IsNodeReason limits file path reason index
    ⊎ ((reason ≡ 11) × (index ≡ 0) × LacksProperty limits file path name)

-- Why a call that returns something of a node fails.
abbrev pub IsNodeFailure : (limit depth : ℕ) → (file path : List ℕ) → Failure → Type 0
IsNodeFailure limit depth file path =
    let limits = bounds limit depth in
    IsTreeFailure (LimitsCheck limit depth) limits file (IsNodeReason limits file path)

-- Why a call that returns the value of a property fails.
abbrev pub IsPropertyFailure : (limit depth : ℕ) → (file path name : List ℕ) → Failure → Type 0
IsPropertyFailure limit depth file path name =
    let limits = bounds limit depth in
    IsTreeFailure (LimitsCheck limit depth) limits file (IsPropertyReason limits file path name)
