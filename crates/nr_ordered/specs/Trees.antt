-- What a node of the tree is seen as, and what holds of it.
use Rattle.std.specs.Prelude.{◌≡◌, ℕ, ◌+◌, ◌-◌, ◌/◌, ◌^◌, ◌<◌, ◌≤◌, min, max, List, [], ◌++◌, length}
use Rattle.nr_ordered.specs.Lists.{Item}
use Rattle.nr_ordered.specs.declared.tree.TreeNode.{TreeNode}
use Rattle.nr_ordered.specs.declared.tree.Link.{Link}
use Rattle.nr_ordered.specs.declared.tree.Link.TheVariants.{Leaf, Fork}

-- the items of two sides and of the block between them
abbrev pub joined : List Item × ℕ → List Item → List Item × ℕ → List Item
joined left block right = left.0 ++ (block ++ right.0)

-- those of a node
abbrev pub items_of : TreeNode → List Item
items_of n = joined n.left n.block n.right

-- the items in order, and the height that is stored
abbrev pub seen : Link → List Item × ℕ
seen Leaf = ([], 0)
seen (Fork height count n) = (items_of n.value, height)

-- the second height is the first, or one more
abbrev pub HasGrown : ℕ → ℕ → Type 0
HasGrown h k = (h ≤ k) × (k ≤ h + 1)

-- neither height is more than this above the other
abbrev pub DifferByAtMost : ℕ → ℕ → ℕ → Type 0
DifferByAtMost by l r = (l ≤ r + by) × (r ≤ l + by)

-- a tree of this height has at least so many nodes, and so as many items
abbrev pub IsFull : ℕ → ℕ → Type 0
IsFull height items = 2 ^ ((height + 1) / 2) ≤ items + 1

-- the count that is kept of so many items: what doesn't fit 32 bits is the greatest number
abbrev pub counted : ℕ → ℕ
counted items = min items (2 ^ 32 - 1)

-- the stored count and height are right, the sides differ by at most one level, and the block is not empty
abbrev pub IsEven : ℕ → ℕ → TreeNode → Type 0
IsEven height count n = (count ≡ counted (length (items_of n)))
    × (height ≡ max n.left.1 n.right.1 + 1)
    × DifferByAtMost 1 n.left.1 n.right.1
    × IsFull height (length (items_of n))
    × (length (items_of n) < 2 ^ 64)
    × (0 < length n.block)

abbrev pub IsBalanced : Link → Type 0
IsBalanced Leaf = Unit {0}
IsBalanced (Fork height count n) = IsEven height count n.value

-- what a node over these sides becomes: balanced, of the same items, and as high as the higher side or one level higher
pub record IsSettled (left : List Item × ℕ) (block : List Item) (right : List Item × ℕ) (root : Link) : Type 0 where
  pub balanced : IsBalanced root
  pub items : (seen root).0 ≡ joined left block right
  pub not_lower : max left.1 right.1 ≤ (seen root).1
  pub at_most_one_higher : (seen root).1 ≤ max left.1 right.1 + 1
  pub even : DifferByAtMost 1 left.1 right.1 → (seen root).1 ≡ max left.1 right.1 + 1

-- a node whose sides or block changed: they are nearly even, and it can be counted
abbrev pub IsNear : Link → Type 0
IsNear Leaf = Unit {0}
IsNear (Fork height count n) = DifferByAtMost 2 n.value.left.1 n.value.right.1 × (length (items_of n.value) < 2 ^ 64)

-- what it becomes
abbrev pub Settles : Link → Link → Type 0
Settles Leaf root = root ≡ Leaf
Settles (Fork height count n) root = IsSettled n.value.left n.value.block n.value.right root
