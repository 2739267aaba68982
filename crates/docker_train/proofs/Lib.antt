mod Found
mod Origins
mod Printed
mod ListedTrains
mod WrittenRows
