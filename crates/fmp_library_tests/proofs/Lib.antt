mod ManyDelayTraces
mod TraceParts
