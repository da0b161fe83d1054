-- What a reader must believe of sorting: Sorted and NumbersSorted (in Shuffled) are the contracts of the sorts; Heap has what the functions
-- inside them say to one another.
pub mod Permuted
pub mod Shuffled
pub mod Heap
pub mod Orders
