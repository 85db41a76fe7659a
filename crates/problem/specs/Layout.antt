-- Document 01, "Problem bytes": where things stand in the bytes of a problem. A byte past the end reads as 0.
use Rattle.std.specs.Prelude.{ℕ, ◌+◌, ◌*◌, List, get_or, take, drop}
use Rattle.problem.specs.declared.layout.Node.{Node}

-- "All numbers little-endian": the numbers of 16, 32 and 64 bits at a place
unfoldable pub le16 : List ℕ → ℕ → ℕ
le16 s p = get_or s p 0 + 256 * get_or s (p + 1) 0

unfoldable pub le32 : List ℕ → ℕ → ℕ
le32 s p = le16 s p + 65536 * le16 s (p + 2)

unfoldable pub le64 : List ℕ → ℕ → ℕ
le64 s p = le32 s p + 4294967296 * le32 s (p + 4)

-- "Header of 9 bytes: the mark `TBV`, version (16 bits, 1), node count N (16 bits), root count R (16 bits)"
abbrev pub version : List ℕ → ℕ
version s = le16 s 3

abbrev pub node_count : List ℕ → ℕ
node_count s = le16 s 5

abbrev pub root_count : List ℕ → ℕ
root_count s = le16 s 7

-- "kind (1), width w (1), fields a, b, c (2 each), lo (8), hi (8)": a node of the 24 bytes that it occupies
unfoldable pub node_of : List ℕ → Node
node_of part =
    record {
      kind = get_or part 0 0;
      width = get_or part 1 0;
      a = le16 part 2;
      b = le16 part 4;
      c = le16 part 6;
      lo = le64 part 8;
      hi = le64 part 16;
    }

-- "Each node occupies 24 bytes, beginning at byte 9 + 24i"
abbrev pub node_start : ℕ → ℕ
node_start i = 9 + 24 * i

unfoldable pub node_at : List ℕ → ℕ → Node
node_at s i = node_of (take 24 (drop (node_start i) s))

unfoldable pub width_at : List ℕ → ℕ → ℕ
width_at s i = (node_at s i).width

-- "Then R roots of 2 bytes": root j is the id of a node
abbrev pub root_start : List ℕ → ℕ → ℕ
root_start s j = 9 + 24 * node_count s + 2 * j

unfoldable pub root_at : List ℕ → ℕ → ℕ
root_at s j = le16 s (root_start s j)

-- "Total length is exactly 9 + 24N + 2R"
abbrev pub total_length : List ℕ → ℕ
total_length s = 9 + 24 * node_count s + 2 * root_count s
